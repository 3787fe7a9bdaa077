use Rattle.std.proofs.Common.{◌≡◌, sym}
use Rattle.gl_std.specs.Names.{with_new}
use Rattle.gl_writing.specs.Written.{name_at}
use Rattle.gl_renumbering.proofs.Growing.{known}
use Rattle.gl_renumbering.proofs.Tabled.{location_stands, table_read, table_room}
use Rattle.gl_renumbering.proofs.numbers.Numbers.location.Goals as goal

pub returns-in-Some-clause-number : goal.returns-in-Some-clause-number
returns-in-Some-clause-number c =
    table_read c.args.old.now.locs c.args.self.now.names.locs c.args.self.now.locations.items c.requires.stands.locations c.args.location c.number-place.result c.in-Some.number c.new.result c.index.result.now c.requires.named c.number-place.ensures c.index.ensures c.in-Some.is c.new.ensures

pub returns-in-Some-clause-names : goal.returns-in-Some-clause-names
returns-in-Some-clause-names c =
    let is = table_read c.args.old.now.locs c.args.self.now.names.locs c.args.self.now.locations.items c.requires.stands.locations c.args.location c.number-place.result c.in-Some.number c.new.result c.index.result.now c.requires.named c.number-place.ensures c.index.ensures c.in-Some.is c.new.ensures in
    let here : with_new c.args.self.now.names.locs (name_at c.args.old.now.locs c.args.location) ≡ c.args.self.now.names.locs = known c.args.self.now.names.locs (name_at c.args.old.now.locs c.args.location) c.new.result is in
    λ i. record { threads = c.args.self.now.names.threads; locks = c.args.self.now.names.locks; locs = sym here i }

pub number_location-requires : goal.number_location-requires
number_location-requires c = record { room = table_room c.args.old.now.locs c.args.self.now.names.locs c.args.self.now.locations.items c.requires.stands.locations c.args.location c.loc.result.now c.loc.ensures }

pub returns-clause-stands : goal.returns-clause-stands
returns-clause-stands c =
    location_stands c.args.old.now c.args.self.now.names c.number_location.new.names c.args.self.now.locks.items c.args.self.now.locations.items c.requires.stands c.args.location c.number-place.result c.in_ok-number.number c.loc.result.now c.loc.ensures c.number-place.ensures c.in_ok-number.ensures.names c.in_ok-number.ensures.number
