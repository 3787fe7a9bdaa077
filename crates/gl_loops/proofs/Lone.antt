-- Edges that stand alone are left out.
use Rattle.std.proofs.Common.{◌≡◌, ℕ, ◌+◌, ◌<◌, Bool, false, List, [], Some, sym, ap, ◌∙◌, arith, inl, inr}
use Rattle.std.proofs.lemmas.Bool.{cases_eq}
use Rattle.std.specs.Prelude.{slice_get}
use Rattle.gl_edges.specs.declared.edge.Edge.{Edge}
use Rattle.gl_index.specs.declared.sides.Side.{Side}
use Rattle.gl_index.specs.declared.users.Users.{Users}
use Rattle.gl_index.specs.Users.{MayUse, Uses, UseAsKnown}
use Rattle.gl_loops.specs.Alone.{HasOnly, IsAlone, LeavesOutAlone}
use Rattle.gl_sought.specs.Sought.{StayLeftOut}

-- a user of a lock that has only one
of_only : (side : Side) (edges : List Edge) (kept : List Bool) (n lock thread t : ℕ) → HasOnly side edges kept lock thread → Uses side edges kept n lock t → t ≡ thread
of_only side edges kept n lock thread t only uses = sym uses.of_thread ∙ only uses.place uses.edge uses.is uses.stays uses.has

-- so no other is known
pub only_known : (side : Side) (edges : List Edge) (kept : List Bool) (n lock thread : ℕ) (users : Users) → UseAsKnown side edges kept n users → HasOnly side edges kept lock thread
    → (t : ℕ) → MayUse users lock t → t ≡ thread
only_known side edges kept n lock thread users known only t (inl several) =
    let (a, b, of_a, of_b, apart) = known.several lock several in
    absurd (apart (of_only side edges kept n lock thread a only of_a ∙ sym (of_only side edges kept n lock thread b only of_b)))
only_known side edges kept n lock thread users known only t (inr one) = of_only side edges kept n lock thread t only (known.one lock t one)

-- among fewer edges an edge is alone, too
pub alone_later : (edges : List Edge) (before now : List Bool) (e : Edge) → StayLeftOut before now → IsAlone edges before e → IsAlone edges now e
alone_later edges before now e stay (inl only) = inl (λ i f at stays has. only i f at (λ out. stays (stay i out)) has)
alone_later edges before now e stay (inr only) = inr (λ i f at stays has. only i f at (λ out. stays (stay i out)) has)

-- where none is left out none comes back
pub stay_from_none : (kept : List Bool) → StayLeftOut [] kept
stay_from_none kept i out = absurd (cc out)

-- what was alone before is left out later
pub left_out_later : (edges : List Edge) (before now after : List Bool) → StayLeftOut before now → LeavesOutAlone edges now after → LeavesOutAlone edges before after
left_out_later edges before now after stay out x e at alone = out x e at (alone_later edges before now e stay alone)

-- and stays so
pub stays_left_out : (edges : List Edge) (before now after : List Bool) → LeavesOutAlone edges before now → StayLeftOut now after → LeavesOutAlone edges before after
stays_left_out edges before now after out stay x e at alone = stay x (out x e at alone)

-- one edge more
pub alone_more : (edges : List Edge) (before now after : List Bool) (n : ℕ)
    → ((x : ℕ) (e : Edge) → x < n → slice_get edges x ≡ Some e → IsAlone edges before e → slice_get now x ≡ Some false)
    → StayLeftOut now after → ((e : Edge) → slice_get edges n ≡ Some e → IsAlone edges before e → slice_get after n ≡ Some false)
    → (x : ℕ) (e : Edge) → x < n + 1 → slice_get edges x ≡ Some e → IsAlone edges before e → slice_get after x ≡ Some false
alone_more edges before now after n out stay here x e below at alone =
    elim (cases_eq x n) [
      | inl same ↦ ap (slice_get after) same ∙ here e (sym (ap (slice_get edges) same) ∙ at) alone
      | inr other ↦ stay x (out x e (omega (arith, below, other)) at alone)
    ]
