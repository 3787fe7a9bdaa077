-- A cycle with an edge of a share has no edges of others.
use Rattle.std.proofs.Common.{◌≡◌, ℕ, ◌+◌, ◌<◌, ◌≤◌, inl, inr, Bool, true, false, List, [], ◌∷◌, ◌++◌, length, get_or, Some, sym, ap, subst, ◌∙◌, arith}
use Rattle.std.specs.Prelude.{slice_get, All, Contains}
use Rattle.std.proofs.lemmas.Bool.{cases_lt}
use Rattle.std.proofs.lemmas.List.{length-map, length_push, map-append}
use Rattle.std.proofs.lemmas.List.Elements.{Contains-append_left, Contains-push}
use Rattle.std.proofs.lemmas.Option.{slice_get-get_or, slice_get_within, same_Some}
use Rattle.gl_event.specs.declared.events.Segment.{Segment}
use Rattle.gl_segments.specs.Clocks.{is_before}
use Rattle.gl_edges.specs.declared.edge.Edge.{Edge}
use Rattle.gl_edges.specs.declared.edge.Sample.{Sample}
use Rattle.gl_filters.specs.Cycle.{IsCycle}
use Rattle.gl_filters.specs.Picked.{edges_of_table}
use Rattle.gl_filters.specs.declared.query.Mode.{Mode}
use Rattle.gl_index.proofs.Lists.{element_at, push_before, push_at_end}
use Rattle.gl_sought.specs.OffCycles.{IsOffCycles, KeepsCycles}
use Rattle.gl_pruning.specs.bodies.Shares.{share_in, AreShares, IsInShare, HasEdgesBelow, AreOff}
use Rattle.gl_sought.specs.Walks.{ends_in, label_at}
use Rattle.gl_pruning.specs.declared.shares.Share.{Share}
use Rattle.gl_pruning.specs.declared.shares.Shares.{Shares}
use Rattle.gl_sought.specs.declared.numbers.Ends.{Ends}
use Rattle.gl_sought.specs.declared.sought.Sought.{Sought}
use Rattle.gl_pruning.proofs.InComponents.{ends_at, kept_in, same_component}

-- a cycle that is short enough for another length is one for it, too
pub same_cycle : (before : Segment → Segment → Bool) (mode : Mode) (len other : ℕ) (cycle : List Edge) → length cycle ≤ other → IsCycle before mode len cycle → IsCycle before mode other cycle
same_cycle before mode len other cycle short is = record {
  two_or_more = is.two_or_more;
  not_too_long = short;
  leads_on = is.leads_on;
  leads_back = is.leads_back;
  locks_differ = is.locks_differ;
  threads_differ = is.threads_differ;
  least_first = is.least_first;
  apart = is.apart;
  unordered = is.unordered;
}

-- where no cycle is longer, what is left out among shorter ones may be left out
pub keeps_longer : (before : Segment → Segment → Bool) (mode : Mode) (len short : ℕ) (edges : List Edge) (kept : List Bool)
    → ((cycle : List Edge) → All (Contains edges) cycle → IsCycle before mode len cycle → length cycle ≤ short)
    → KeepsCycles before mode short edges kept → KeepsCycles before mode len edges kept
keeps_longer before mode len short edges kept none keeps = record {
  long = keeps.long;
  left_out = λ i e at out cycle among is. keeps.left_out i e at out cycle among (same_cycle before mode len short cycle (none cycle among is) is);
}

module _ (s : Sought) (shares : Shares) (are : AreShares s shares) (number : ℕ) (share : Share)
    (has : HasEdgesBelow (edges_of_table s.table.now) shares number (length s.table.now) share) where
  abbrev edges : List Edge
  edges = edges_of_table s.table.now

  abbrev own : List Edge
  own = edges_of_table share.table.items

  module _ (cycle : List Edge) (among : All (Contains edges) cycle) (is : IsCycle (is_before s.order.now) s.mode s.len cycle)
      (place position : ℕ) (e : Edge) (at : slice_get share.positions.items place ≡ Some position) (at_own : slice_get own place ≡ Some e) (in_it : Contains cycle e) where
    -- each edge of the cycle is one of the share
    within : (j : ℕ) (f : Edge) → slice_get cycle j ≡ Some f → Contains own f
    within j f at_j =
        let (k, below, same) = in_it in
        let at_k : slice_get cycle k ≡ Some e = slice_get-get_or cycle k e below ∙ ap Some same in
        let (i, there, flag) = kept_in s shares.labels.items shares.ends.items shares.kept.items are cycle among is j f at_j in
        let here = has.own place position e at at_own in
        let level = same_component s shares.labels.items shares.ends.items shares.kept.items are cycle among is j k f e at_j at_k in
        let in_share = here.1 (ends_in are.numbered.0 e) (ends_at s shares.labels.items shares.ends.items shares.kept.items are position e here.0) in
        has.whole i f (ends_in are.numbered.0 f) (omega (arith, slice_get_within edges i f there, length-map s.table.now (λ pair. pair.0))) there flag
        (ends_at s shares.labels.items shares.ends.items shares.kept.items are i f there)
        (ap (label_at shares.by_component.items) level ∙ in_share)

    all_within : All (Contains own) cycle
    all_within j d below = within j (get_or cycle j d) (slice_get-get_or cycle j d below)

  -- so an edge that is in no cycle of the share is in none
  pub off_by_share : (stay : List Bool) → KeepsCycles (is_before s.order.now) s.mode s.len own stay → AreOff s share stay
  off_by_share stay keeps = record {
    long = keeps.long ∙ length-map share.table.items (λ pair. pair.0) ∙ has.long;
    there = there;
    off = off;
  }
    where
      -- the edge at a place
      edge_at : (place position : ℕ) → slice_get share.positions.items place ≡ Some position → (e : Edge) × (slice_get own place ≡ Some e)
      edge_at place position at = element_at own place (omega (arith, slice_get_within share.positions.items place position at, has.long, length-map share.table.items (λ pair. pair.0)))

      there : (place position : ℕ) → slice_get share.positions.items place ≡ Some position → position < length s.table.now
      there place position at =
          let here = edge_at place position at in
          let from = has.own place position here.0 at here.1 in
          omega (arith, slice_get_within edges position here.0 from.0, length-map s.table.now (λ pair. pair.0))

      off : (place position : ℕ) (e : Edge) → slice_get share.positions.items place ≡ Some position → slice_get stay place ≡ Some false → slice_get edges position ≡ Some e
          → IsOffCycles (is_before s.order.now) s.mode s.len edges e
      off place position e at out at_e =
          let here = edge_at place position at in
          let from = has.own place position here.0 at here.1 in
          let is_e : here.0 ≡ e = same_Some here.0 e (sym from.0 ∙ at_e) in
          subst (IsOffCycles (is_before s.order.now) s.mode s.len edges) is_e
          (λ cycle among is in_it. keeps.left_out place here.0 here.1 out cycle (all_within cycle among is place position here.0 at here.1 in_it) is in_it)

-- edges of a longer list with samples
edges_push : (table : List (Edge × Sample)) (e : Edge) (sample : Sample) → edges_of_table (table ++ (e, sample) ∷ []) ≡ edges_of_table table ++ e ∷ []
edges_push table e sample = map-append (λ pair. pair.0) table ((e, sample) ∷ [])

module _ (edges : List Edge) (shares : Shares) (number below : ℕ) (old : Share) (has : HasEdgesBelow edges shares number below old) where
  -- the edge at the next position isn't one of the share
  pub one_passed_over : ((d : Ends) → slice_get shares.kept.items below ≡ Some true → slice_get shares.ends.items below ≡ Some d → ¬ (share_in shares d.held ≡ number)) → HasEdgesBelow edges shares number (below + 1) old
  one_passed_over other = record {
    long = has.long;
    own = has.own;
    whole = λ position e d lower at flag at_d in_share.
        elim (cases_lt position below) [
          | inl before ↦ has.whole position e d before at flag at_d in_share
          | inr after ↦
              let same : position ≡ below = omega (arith, after, lower) in
              absurd (other d (ap (slice_get shares.kept.items) (sym same) ∙ flag) (ap (slice_get shares.ends.items) (sym same) ∙ at_d) in_share)
        ];
  }

  -- it is, and is added
  pub one_added : (e : Edge) (sample : Sample) (new : Share) → slice_get edges below ≡ Some e → IsInShare shares number below
      → new.table.items ≡ old.table.items ++ (e, sample) ∷ [] → new.positions.items ≡ old.positions.items ++ below ∷ [] → HasEdgesBelow edges shares number (below + 1) new
  one_added e sample new at in_share table positions = record {
    long = ap length table ∙ length_push old.table.items (e, sample) ∙ ap (λ n. n + 1) has.long ∙ sym (length_push old.positions.items below) ∙ sym (ap length positions);
    own = own;
    whole = whole;
  }
    where
      edges_are : edges_of_table new.table.items ≡ edges_of_table old.table.items ++ e ∷ []
      edges_are = ap edges_of_table table ∙ edges_push old.table.items e sample

      long : length (edges_of_table old.table.items) ≡ length old.positions.items
      long = length-map old.table.items (λ pair. pair.0) ∙ has.long

      own : (place position : ℕ) (f : Edge) → slice_get new.positions.items place ≡ Some position → slice_get (edges_of_table new.table.items) place ≡ Some f
          → (slice_get edges position ≡ Some f) × IsInShare shares number position
      own place position f at_p at_f =
          let at_p1 : slice_get (old.positions.items ++ below ∷ []) place ≡ Some position = ap (λ l. slice_get l place) (sym positions) ∙ at_p in
          let at_f1 : slice_get (edges_of_table old.table.items ++ e ∷ []) place ≡ Some f = ap (λ l. slice_get l place) (sym edges_are) ∙ at_f in
          elim (cases_lt place (length old.positions.items)) [
            | inl before ↦ has.own place position f (sym (push_before old.positions.items below place before) ∙ at_p1) (sym (push_before (edges_of_table old.table.items) e place (omega (arith, before, long))) ∙ at_f1)
            | inr after ↦
                let within = slice_get_within (old.positions.items ++ below ∷ []) place position at_p1 in
                let last : place ≡ length old.positions.items = omega (arith, after, within, length_push old.positions.items below) in
                let is_p : below ≡ position = same_Some below position (sym (push_at_end old.positions.items below) ∙ ap (slice_get (old.positions.items ++ below ∷ [])) (sym last) ∙ at_p1) in
                let is_f : e ≡ f = same_Some e f (sym (push_at_end (edges_of_table old.table.items) e) ∙ ap (slice_get (edges_of_table old.table.items ++ e ∷ [])) (long ∙ sym last) ∙ at_f1) in
                (ap (slice_get edges) (sym is_p) ∙ at ∙ ap Some is_f, subst (IsInShare shares number) is_p in_share)
          ]

      whole : (position : ℕ) (f : Edge) (d : Ends) → position < below + 1 → slice_get edges position ≡ Some f → slice_get shares.kept.items position ≡ Some true → slice_get shares.ends.items position ≡ Some d
          → share_in shares d.held ≡ number → Contains (edges_of_table new.table.items) f
      whole position f d lower at_f flag at_d in_it =
          subst (λ l. Contains l f) (sym edges_are) (elim (cases_lt position below) [
            | inl before ↦ Contains-append_left (edges_of_table old.table.items) (e ∷ []) f (has.whole position f d before at_f flag at_d in_it)
            | inr after ↦
                let same : position ≡ below = omega (arith, after, lower) in
                let is_f : e ≡ f = same_Some e f (sym at ∙ ap (slice_get edges) (sym same) ∙ at_f) in
                subst (λ x. Contains (edges_of_table old.table.items ++ e ∷ []) x) is_f (Contains-push (edges_of_table old.table.items) e)
          ])
