-- What a report has to have for what is printed of it.
use Rattle.gl_findings.specs.declared.listing.Contents.{Contents}
use Rattle.gl_findings.specs.declared.listing.Contents.TheVariants as only
use Rattle.gl_findings.specs.declared.listing.Listing.{Listing}
use Rattle.gl_findings.specs.declared.listing.Listing.TheVariants.{Cycles, Findings}
use Rattle.gl_options.specs.declared.form.Form.{Form}
use Rattle.gl_options.specs.declared.form.Form.TheVariants.{Text, Json}
use Rattle.gl_options.specs.declared.live_options.LiveOptions.{LiveOptions}
use Rattle.gl_commands.specs.Sessions.{listing_asked}

-- of a report that lists cycles, or findings, in this form: a text has no trim order
abbrev pub contents_for : Listing → Form → Contents
contents_for Cycles Text = only.Cycles
contents_for Cycles Json = only.CyclesAndTrim
contents_for Findings Text = only.Findings
contents_for Findings Json = only.Findings

-- of the report that the options of a session ask for
abbrev pub contents_of : LiveOptions → Contents
contents_of options = contents_for (listing_asked options) options.form
