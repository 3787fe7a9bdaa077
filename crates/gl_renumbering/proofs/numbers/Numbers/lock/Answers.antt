use Rattle.std.proofs.Common.{◌≡◌, sym}
use Rattle.gl_std.specs.Names.{with_new}
use Rattle.gl_writing.specs.Written.{name_at}
use Rattle.gl_renumbering.proofs.Growing.{known}
use Rattle.gl_renumbering.proofs.Tabled.{lock_stands, table_read, table_room}
use Rattle.gl_renumbering.proofs.numbers.Numbers.lock.Goals as goal

pub returns-in-Some-clause-number : goal.returns-in-Some-clause-number
returns-in-Some-clause-number c =
    table_read c.args.old.now.locks c.args.self.now.names.locks c.args.self.now.locks.items c.requires.stands.locks c.args.lock c.number-place.result c.in-Some.number c.new.result c.index.result.now c.requires.named c.number-place.ensures c.index.ensures c.in-Some.is c.new.ensures

pub returns-in-Some-clause-names : goal.returns-in-Some-clause-names
returns-in-Some-clause-names c =
    let is = table_read c.args.old.now.locks c.args.self.now.names.locks c.args.self.now.locks.items c.requires.stands.locks c.args.lock c.number-place.result c.in-Some.number c.new.result c.index.result.now c.requires.named c.number-place.ensures c.index.ensures c.in-Some.is c.new.ensures in
    let here : with_new c.args.self.now.names.locks (name_at c.args.old.now.locks c.args.lock) ≡ c.args.self.now.names.locks = known c.args.self.now.names.locks (name_at c.args.old.now.locks c.args.lock) c.new.result is in
    λ i. record { threads = c.args.self.now.names.threads; locks = sym here i; locs = c.args.self.now.names.locs }

pub number_lock-requires : goal.number_lock-requires
number_lock-requires c = record { room = table_room c.args.old.now.locks c.args.self.now.names.locks c.args.self.now.locks.items c.requires.stands.locks c.args.lock c.lock.result.now c.lock.ensures }

pub returns-clause-stands : goal.returns-clause-stands
returns-clause-stands c =
    lock_stands c.args.old.now c.args.self.now.names c.number_lock.new.names c.args.self.now.locks.items c.args.self.now.locations.items c.requires.stands c.args.lock c.number-place.result c.in_ok-number.number c.lock.result.now c.lock.ensures c.number-place.ensures c.in_ok-number.ensures.names c.in_ok-number.ensures.number
