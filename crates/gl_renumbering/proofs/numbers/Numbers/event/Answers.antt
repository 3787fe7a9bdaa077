use Rattle.std.proofs.Common.{[], ◌∷◌, sym, ap, ◌∙◌}
use Rattle.gl_event.specs.declared.events.Event.TheVariants.{Acquire, Release, TryAcquire, Fork, Join}
use Rattle.gl_std.specs.Names.{NameLists, with_new}
use Rattle.gl_writing.specs.Written.{name_at}
use Rattle.gl_renumbering.specs.Tales.{event_by, mentioned, told}
use Rattle.gl_renumbering.specs.bodies.Tables.{with_more}
use Rattle.gl_renumbering.proofs.Telling.{lock_told, location_told}
use Rattle.gl_renumbering.proofs.numbers.Numbers.event.Goals as goal

pub returns-in_ok-loc-in-Acquire-clause-names : goal.returns-in_ok-loc-in-Acquire-clause-names
returns-in_ok-loc-in-Acquire-clause-names c =
    c.in_ok-loc-in-Acquire.ensures.names ∙ ap {A = NameLists} {B = NameLists} (λ ns. record ns { locs = with_new ns.locs (name_at c.args.old.now.locs c.in-Acquire.loc) }) c.in_ok-lock-in-Acquire.ensures.names
    ∙ ap (λ e. mentioned c.args.self.now.names (told c.args.old.now e ∷ [])) (sym c.in-Acquire.is)

pub returns-in_ok-loc-in-Acquire-clause-event : goal.returns-in_ok-loc-in-Acquire-clause-event
returns-in_ok-loc-in-Acquire-clause-event c = λ more.
    let names = c.location.new.self.names in
    let location_name = name_at c.args.old.now.locs c.in-Acquire.loc in
    let lock = lock_told c.lock.new.self.names names (name_at c.args.old.now.locks c.in-Acquire.lock) location_name c.in_ok-lock-in-Acquire.lock c.in_ok-loc-in-Acquire.ensures.names c.in_ok-lock-in-Acquire.ensures.number more in
    let location = location_told names location_name c.in_ok-loc-in-Acquire.loc c.in_ok-loc-in-Acquire.ensures.number more in
    (λ i. Acquire c.in-Acquire.mode (lock i) (location i)) ∙ ap (λ e. event_by (with_more names more) (told c.args.old.now e)) (sym c.in-Acquire.is)

pub returns-in_ok-loc-in-Release-clause-names : goal.returns-in_ok-loc-in-Release-clause-names
returns-in_ok-loc-in-Release-clause-names c =
    c.in_ok-loc-in-Release.ensures.names ∙ ap {A = NameLists} {B = NameLists} (λ ns. record ns { locs = with_new ns.locs (name_at c.args.old.now.locs c.in-Release.loc) }) c.in_ok-lock-in-Release.ensures.names
    ∙ ap (λ e. mentioned c.args.self.now.names (told c.args.old.now e ∷ [])) (sym c.in-Release.is)

pub returns-in_ok-loc-in-Release-clause-event : goal.returns-in_ok-loc-in-Release-clause-event
returns-in_ok-loc-in-Release-clause-event c = λ more.
    let names = c.location-in-Release.new.self.names in
    let location_name = name_at c.args.old.now.locs c.in-Release.loc in
    let lock = lock_told c.lock-in-Release.new.self.names names (name_at c.args.old.now.locks c.in-Release.lock) location_name c.in_ok-lock-in-Release.lock c.in_ok-loc-in-Release.ensures.names c.in_ok-lock-in-Release.ensures.number more in
    let location = location_told names location_name c.in_ok-loc-in-Release.loc c.in_ok-loc-in-Release.ensures.number more in
    (λ i. Release c.in-Release.mode (lock i) (location i)) ∙ ap (λ e. event_by (with_more names more) (told c.args.old.now e)) (sym c.in-Release.is)

pub returns-in_ok-loc-in-TryAcquire-clause-names : goal.returns-in_ok-loc-in-TryAcquire-clause-names
returns-in_ok-loc-in-TryAcquire-clause-names c =
    c.in_ok-loc-in-TryAcquire.ensures.names ∙ ap {A = NameLists} {B = NameLists} (λ ns. record ns { locs = with_new ns.locs (name_at c.args.old.now.locs c.in-TryAcquire.loc) }) c.in_ok-lock-in-TryAcquire.ensures.names
    ∙ ap (λ e. mentioned c.args.self.now.names (told c.args.old.now e ∷ [])) (sym c.in-TryAcquire.is)

pub returns-in_ok-loc-in-TryAcquire-clause-event : goal.returns-in_ok-loc-in-TryAcquire-clause-event
returns-in_ok-loc-in-TryAcquire-clause-event c = λ more.
    let names = c.location-in-TryAcquire.new.self.names in
    let location_name = name_at c.args.old.now.locs c.in-TryAcquire.loc in
    let lock = lock_told c.lock-in-TryAcquire.new.self.names names (name_at c.args.old.now.locks c.in-TryAcquire.lock) location_name c.in_ok-lock-in-TryAcquire.lock c.in_ok-loc-in-TryAcquire.ensures.names c.in_ok-lock-in-TryAcquire.ensures.number more in
    let location = location_told names location_name c.in_ok-loc-in-TryAcquire.loc c.in_ok-loc-in-TryAcquire.ensures.number more in
    (λ i. TryAcquire c.in-TryAcquire.mode (lock i) (location i)) ∙ ap (λ e. event_by (with_more names more) (told c.args.old.now e)) (sym c.in-TryAcquire.is)

pub returns-in_ok-loc-in-Fork-clause-names : goal.returns-in_ok-loc-in-Fork-clause-names
returns-in_ok-loc-in-Fork-clause-names c =
    c.in_ok-loc-in-Fork.ensures.names ∙ ap (λ e. mentioned c.args.self.now.names (told c.args.old.now e ∷ [])) (sym c.in-Fork.is)

pub returns-in_ok-loc-in-Fork-clause-event : goal.returns-in_ok-loc-in-Fork-clause-event
returns-in_ok-loc-in-Fork-clause-event c = λ more.
    let names = c.location-in-Fork.new.self.names in
    let location = location_told names (name_at c.args.old.now.locs c.in-Fork.loc) c.in_ok-loc-in-Fork.loc c.in_ok-loc-in-Fork.ensures.number more in
    ap (λ p. Fork c.in-Fork.thread p) location ∙ ap (λ e. event_by (with_more names more) (told c.args.old.now e)) (sym c.in-Fork.is)

pub returns-in_ok-loc-in-Join-clause-names : goal.returns-in_ok-loc-in-Join-clause-names
returns-in_ok-loc-in-Join-clause-names c =
    c.in_ok-loc-in-Join.ensures.names ∙ ap (λ e. mentioned c.args.self.now.names (told c.args.old.now e ∷ [])) (sym c.in-Join.is)

pub returns-in_ok-loc-in-Join-clause-event : goal.returns-in_ok-loc-in-Join-clause-event
returns-in_ok-loc-in-Join-clause-event c = λ more.
    let names = c.location-in-Join.new.self.names in
    let location = location_told names (name_at c.args.old.now.locs c.in-Join.loc) c.in_ok-loc-in-Join.loc c.in_ok-loc-in-Join.ensures.number more in
    ap (λ p. Join c.in-Join.thread p) location ∙ ap (λ e. event_by (with_more names more) (told c.args.old.now e)) (sym c.in-Join.is)
