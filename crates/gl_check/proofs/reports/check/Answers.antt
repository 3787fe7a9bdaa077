use Rattle.std.proofs.Common.{◌≡◌, ◌⊎◌, ℕ, List, length, is_some}
use Rattle.serde_json.specs.View.{view}
use Rattle.gl_check.specs.Checked.{HoldsOf, IsChecked, IsCheckFault, IsFalseOf, IsOrderFault}
use Rattle.gl_check.specs.Shape.{format_in, listing_in, trim_in}
use Rattle.gl_check.proofs.Faulty.{check_fault}
use Rattle.gl_check.proofs.Tables.{on_err, on_ok}
use Rattle.gl_check.proofs.Truth.{is_checked}
use Rattle.gl_check.proofs.reports.check.Goals as goal

pub returns-clause-checked : goal.returns-clause-checked
returns-clause-checked c =
    let d = view c.in_ok-value.value in
    let trace = c.args.trace.now in
    on_ok (λ checked. (found : List (List ℕ)) × HoldsOf trace d found × (checked.listing ≡ listing_in (format_in d)) × (checked.cycles ≡ length found) × (checked.acyclic ≡ is_some (trim_in d))) (IsChecked trace c.args.json.now) c.checked_of.result
    (λ checked held. is_checked trace c.args.json.now d held.0 checked c.in_ok-value.ensures.ok c.in-Some.ensures.0 held.1 held.2 held.3 held.4) c.checked_of.ensures.ok

pub returns-clause-fault : goal.returns-clause-fault
returns-clause-fault c =
    let d = view c.in_ok-value.value in
    let trace = c.args.trace.now in
    on_err (λ fault. IsOrderFault trace.lists fault ⊎ IsFalseOf trace d fault) (IsCheckFault trace c.args.json.now) c.checked_of.result
    (λ fault. check_fault trace c.args.json.now d fault c.in_ok-value.ensures.ok c.in-Some.ensures.0) c.checked_of.ensures.fault
