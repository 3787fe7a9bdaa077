-- Listed cycles that are found one after the other.
use Rattle.std.proofs.Common.{◌≡◌, ℕ, ◌+◌, ◌<◌, Bool, List, [], ◌∷◌, ◌++◌, length, take, get_or, map, refl, sym, ap, subst, ◌∙◌, arith}
use Rattle.std.proofs.lemmas.List.{map_push, length-map, length-take-le, take-map}
use Rattle.std.proofs.lemmas.Slice.Zip.{AllZip-long}
use Rattle.serde_json.specs.Data.{Data}
use Rattle.gl_event.specs.declared.events.Segment.{Segment}
use Rattle.gl_std.specs.Names.{NameLists}
use Rattle.gl_edges.specs.declared.edge.Edge.{Edge}
use Rattle.gl_edges.specs.declared.edge.Sample.{Sample}
use Rattle.gl_filters.specs.Asked.{Asked}
use Rattle.gl_check.specs.Cycles.{AreCyclesOf, IsAbove, IsGreaterThanLast, IsCycleOf, IsFaultOf, IsFirstFault}
use Rattle.gl_check.specs.Shape.{listing_in}
use Rattle.gl_check.specs.Signatures.{compared_by}
use Rattle.gl_check.specs.declared.faults.CheckFault.{CheckFault}
use Rattle.gl_check.specs.declared.fields.Format.{Format}
use Rattle.gl_check.proofs.Ascending.{ascend_more, none_ascend}
use Rattle.gl_check.proofs.Shapes.{mapped_at, zip_more}

module _ (format : Format) (names : NameLists) (table : List (Edge × Sample)) (before : Segment → Segment → Bool) (asked : Asked) where
  -- cycles that were asked for, which ascend and are compared by these lists
  pub record AreKept (dss : List (List Data)) (lists : List (List ℕ)) : Type 0 where
    pub found : List (List ℕ)
    pub are : AreCyclesOf format names table before asked dss found
    pub kept : map (compared_by (listing_in format) table) found ≡ lists

  -- none are found at the start
  pub none_yet : {Y : Type 0} (g : Y → List ℕ) (lists : List Y) → lists ≡ [] → AreKept [] (map g lists)
  none_yet g lists none = subst (λ l. AreKept [] (map g l)) (sym none) (record { found = []; are = record { each = tt; ascend = none_ascend table (listing_in format) }; kept = refl })

  module _ {X Y : Type 0} (f : X → List Data) (g : Y → List ℕ) (xs : List X) (i : ℕ) (x : X) (within : i < length xs) (is : x ≡ get_or xs i x) (lists : List Y) (so_far : AreKept (map f (take i xs)) (map g lists)) where
    -- one more, above the last one
    pub one_more : (y : Y) (new : List Y) (positions : List ℕ) → IsCycleOf format names table before asked (f x) positions → g y ≡ compared_by (listing_in format) table positions
        → IsGreaterThanLast (map g lists) (g y) → new ≡ lists ++ y ∷ [] → AreKept (map f (take (i + 1) xs)) (map g new)
    one_more y new positions cycle by above put =
        let higher : IsAbove (listing_in format) table so_far.found positions = subst (IsGreaterThanLast (map (compared_by (listing_in format) table) so_far.found)) by (subst (λ l. IsGreaterThanLast l (g y)) (sym so_far.kept) above) in
        record {
          found = so_far.found ++ positions ∷ [];
          are = record {
            each = zip_more (IsCycleOf format names table before asked) f xs so_far.found i x positions within is so_far.are.each cycle;
            ascend = ascend_more table (listing_in format) so_far.found positions so_far.are.ascend higher;
          };
          kept = map_push (compared_by (listing_in format) table) so_far.found positions ∙ (λ j. so_far.kept j ++ sym by j ∷ []) ∙ sym (map_push g lists y) ∙ ap (map g) (sym put);
        }

    -- the next one has a fault
    pub next_fault : (fault : CheckFault)
        → ((found : List (List ℕ)) → map (compared_by (listing_in format) table) found ≡ map g lists → IsFaultOf format names table before asked (length lists) found (f x) fault)
        → IsFirstFault format names table before asked (map f xs) fault
    next_fault fault faulty =
        let long : length lists ≡ i =
        omega (
          arith,
          AllZip-long (IsCycleOf format names table before asked) (map f (take i xs)) so_far.found so_far.are.each,
          ap length so_far.kept,
          length-map so_far.found (compared_by (listing_in format) table),
          length-map lists g,
          length-map (take i xs) f,
          length-take-le i xs (omega arith),
        ) in
        record {
          number = i;
          ds = f x;
          there = mapped_at f xs i x within is;
          found = so_far.found;
          before_it = subst (λ cycles. AreCyclesOf format names table before asked cycles so_far.found) (sym (take-map f i xs)) so_far.are;
          is = subst (λ n. IsFaultOf format names table before asked n so_far.found (f x) fault) long (faulty so_far.found so_far.kept);
        }
