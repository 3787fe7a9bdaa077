-- The fault of a report whose shape is right.
use Rattle.std.proofs.Common.{◌≡◌, ◌⊎◌, Bool, true, List, ℕ, sym, subst, inl, inr}
use Rattle.serde_json.specs.Data.{Data}
use Rattle.gl_std.specs.declared.trace.Trace.{Trace}
use Rattle.gl_event.specs.declared.events.Segment.{Segment}
use Rattle.gl_std.specs.Names.{NameLists}
use Rattle.gl_edges.specs.declared.edge.Edge.{Edge as AnyEdge}
use Rattle.gl_edges.specs.declared.edge.Sample.{Sample}
use Rattle.gl_check.specs.Checked.{AreListedAt, HasTable, IsCheckFault, IsFalseOf, IsFaultOfTrim, IsFirstFalse, IsOrderFault, Reads}
use Rattle.gl_check.specs.Cycles.{IsFirstFault}
use Rattle.gl_check.specs.Shape.{asked_in, cycles_shown, format_in, is_report}
use Rattle.gl_check.specs.declared.faults.CheckFault.{CheckFault}
use Rattle.gl_check.specs.declared.faults.CheckFault.TheVariants.{Json, Shape, Inconsistent, Table, Edge, Verdict, Order, Trim, Memory}

module _ (names : NameLists) (table : List (AnyEdge × Sample)) (before : Segment → Segment → Bool) (d : Data) where
  -- a listed cycle is at fault, as the table is right
  cycle_fault : (fault : CheckFault) → HasTable names table before d (format_in d) → IsFirstFault (format_in d) names table before (asked_in d) (cycles_shown d) fault → IsFirstFalse names table before d fault
  cycle_fault Json has first = absurd first.is
  cycle_fault Shape has first = absurd first.is
  cycle_fault (Inconsistent at ring) has first = absurd first.is
  cycle_fault (Table k) has first = absurd first.is
  cycle_fault (Edge i k) has first = record { printed_table = has; first = first }
  cycle_fault (Verdict i verdict) has first = record { printed_table = has; first = first }
  cycle_fault (Order i) has first = record { printed_table = has; first = first }
  cycle_fault (Trim i) has first = absurd first.is
  cycle_fault Memory has first = tt

  pub false_cycles : (fault : CheckFault) → HasTable names table before d (format_in d) → (fault ≡ Memory) ⊎ IsFirstFault (format_in d) names table before (asked_in d) (cycles_shown d) fault → IsFirstFalse names table before d fault
  false_cycles fault has (inl refused) = subst (IsFirstFalse names table before d) (sym refused) tt
  false_cycles fault has (inr first) = cycle_fault fault has first

  -- the trim order is, as the table and the cycles are right
  pub false_trim : (fault : CheckFault) (found : List (List ℕ)) → HasTable names table before d (format_in d) → AreListedAt names table before d found → IsFaultOfTrim names table before d fault → IsFirstFalse names table before d fault
  false_trim Json found has are none = absurd none
  false_trim Shape found has are none = absurd none
  false_trim (Inconsistent at ring) found has are none = absurd none
  false_trim (Table k) found has are none = absurd none
  false_trim (Edge i k) found has are none = absurd none
  false_trim (Verdict i verdict) found has are none = absurd none
  false_trim (Order i) found has are none = absurd none
  false_trim (Trim i) found has are wrong = record { printed_table = has; found = found; cycles = are; trim = wrong }
  false_trim Memory found has are refused = tt

-- the trace has no order, or something that is said is false
pub check_fault : (trace : Trace) (json : List ℕ) (d : Data) (fault : CheckFault) → Reads json d → is_report d ≡ true → IsOrderFault trace.lists fault ⊎ IsFalseOf trace d fault → IsCheckFault trace json fault
check_fault trace json d Json reads shaped (inl none) = absurd none
check_fault trace json d Json reads shaped (inr at) = absurd at.first
check_fault trace json d Shape reads shaped (inl none) = absurd none
check_fault trace json d Shape reads shaped (inr at) = absurd at.first
check_fault trace json d (Inconsistent at ring) reads shaped (inl loops) = (d, reads, shaped, loops)
check_fault trace json d (Inconsistent at ring) reads shaped (inr it) = absurd it.first
check_fault trace json d (Table k) reads shaped (inl none) = absurd none
check_fault trace json d (Table k) reads shaped (inr it) = record { said = d; reads = reads; shaped = shaped; is = it }
check_fault trace json d (Edge i k) reads shaped (inl none) = absurd none
check_fault trace json d (Edge i k) reads shaped (inr it) = record { said = d; reads = reads; shaped = shaped; is = it }
check_fault trace json d (Verdict i verdict) reads shaped (inl none) = absurd none
check_fault trace json d (Verdict i verdict) reads shaped (inr it) = record { said = d; reads = reads; shaped = shaped; is = it }
check_fault trace json d (Order i) reads shaped (inl none) = absurd none
check_fault trace json d (Order i) reads shaped (inr it) = record { said = d; reads = reads; shaped = shaped; is = it }
check_fault trace json d (Trim i) reads shaped (inl none) = absurd none
check_fault trace json d (Trim i) reads shaped (inr it) = record { said = d; reads = reads; shaped = shaped; is = it }
check_fault trace json d Memory reads shaped either = tt
