-- The recorders of a session that was opened, and what is ready to run.
use Rattle.std.proofs.Common.{◌≡◌, ℕ, ◌≤◌, List, [], ◌∷◌, ◌++◌, length, map, get_or, refl, sym, ap, ◌∙◌, subst, arith}
use Rattle.std.specs.Prelude.{slice_get}
use Rattle.std.specs.List.{All}
use Rattle.std.specs.Option.{option_map}
use Rattle.std.specs.Vec.{vec_len, vec_capacity}
use Rattle.std.proofs.lemmas.List.{length-map, map-append}
use Rattle.std.proofs.lemmas.Option.{slice_get-map}
use Rattle.gl_event.specs.Bounds.{Bounds}
use Rattle.gl_event.specs.declared.limits.TheConstants.{MAX_EVENTS}
use Rattle.gl_lane.specs.OwnLanes.{OwnLaneId}
use Rattle.gl_world.proofs.Lists.{get_in}
use Rattle.gl_engine.specs.Collecting.{Collecting, IsOpened, fresh_input, lanes_of}
use Rattle.gl_engine.specs.Recording.{Recording}
use Rattle.gl_shards.specs.declared.shard.TheConstants.{MAX_SHARDS}
use Rattle.gl_live.specs.bodies.Ready.{IsReady}
use Rattle.gl_live.specs.bodies.Rosters.{Roster, roster_of, IsRecorderOf}
use Rattle.gl_live.specs.bodies.Streams.{AreRecorded}
use Rattle.gl_live.specs.declared.session.Session.{Session}
use Rattle.gl_live.proofs.Leaving.{unsent_at}
use Rattle.gl_live.proofs.Rostered.{events_none}
use Rattle.gl_intake.specs.Stream.{events_of}

lanes_of_fresh : (lanes : List OwnLaneId) → map (λ input. input.lane) (map fresh_input lanes) ≡ lanes
lanes_of_fresh [] = refl
lanes_of_fresh (lane ∷ lanes) = ap (λ ls. lane ∷ ls) (lanes_of_fresh lanes)

-- one more at the end of both
pub one_more : {X Y Z : Type 0} (f : X → Z) (g : Y → Z) (xs xs_after : List X) (ys ys_after : List Y) (x : X) (y : Y) → xs_after ≡ xs ++ x ∷ [] → ys_after ≡ ys ++ y ∷ [] → map f xs ≡ map g ys → f x ≡ g y → map f xs_after ≡ map g ys_after
one_more f g xs xs_after ys ys_after x y left right same one =
    ap (map f) left ∙ map-append f xs (x ∷ []) ∙ (λ i. same i ++ one i ∷ []) ∙ sym (map-append g ys (y ∷ [])) ∙ sym (ap (map g) right)

-- what is ready to run
pub ready : (threads shards : ℕ) → 1 ≤ shards → shards ≤ MAX_SHARDS → (x : Session) → x.collector.limits.threads ≡ threads → x.collector.limits.events ≡ MAX_EVENTS
    → length x.outlets.items ≡ shards → map (λ i. i.feed) x.inlets.items ≡ map (λ o. o.feed) x.outlets.items → All (λ o. o.sent ≡ []) x.outlets.items
    → x.receipts.items ≡ [] → vec_len x.receipts ≡ 0 → threads ≤ vec_capacity x.receipts → x.served.items ≡ [] → vec_len x.served ≡ 0 → shards ≤ vec_capacity x.served → IsReady threads x
ready threads shards some fit x known events count feeds unsent no_receipt empty room none_served empty_served served_room =
    let inlets : length x.inlets.items ≡ shards = sym (length-map x.inlets.items (λ i. i.feed)) ∙ ap length feeds ∙ length-map x.outlets.items (λ o. o.feed) ∙ count in
    record {
      threads_are = known;
      events_are = events;
      outlets = record {
        shards = record { some = omega (arith, some, count); fit = subst (λ n. n ≤ MAX_SHARDS) (sym count) fit };
        unsent = unsent_at x.outlets.items unsent;
      };
      feeds = feeds;
      no_receipt = no_receipt;
      room = omega (arith, room, empty);
      none_served = none_served;
      served_room = omega (arith, served_room, empty_served, inlets);
    }

-- recorders of a session that have recorded none of its lists
pub all_unused : (s : Roster) (recorders : List Recording) → AreRecorded s [] recorders → All (IsRecorderOf s) recorders
all_unused s recorders are thread d within =
    let here = get_in recorders thread d within in
    record { identity = are.identities thread (get_or recorders thread d) here; unused = are.events thread (get_or recorders thread d) here }

module _ (session : ℕ) (limits : Bounds) (recorders : List Recording) (c : Collecting) (opened : IsOpened session limits recorders c) where
  lanes_are : lanes_of c ≡ map (λ r. r.lane) recorders
  lanes_are = ap lanes_of opened.collects ∙ lanes_of_fresh (map (λ r. r.lane) recorders)

  pub opened_unused : AreRecorded (roster_of c) [] recorders
  opened_unused = record {
    identities = λ thread r here.
        let fresh = opened.fresh thread r here in
        record {
          session = ap (λ (x : Recording). x.session) fresh ∙ sym (ap (λ (x : Collecting). x.session) opened.collects);
          limits = ap (λ (x : Recording). x.limits) fresh ∙ sym (ap (λ (x : Collecting). x.limits) opened.collects);
          lane =
              ap (λ lanes. slice_get lanes r.thread) lanes_are
              ∙ ap (slice_get (map (λ r. r.lane) recorders)) (ap (λ (x : Recording). x.thread) fresh)
              ∙ slice_get-map (λ (x : Recording). x.lane) recorders thread
              ∙ ap (option_map (λ (x : Recording). x.lane)) here;
        };
    threads = λ thread r here. ap (λ (x : Recording). x.thread) (opened.fresh thread r here);
    events = λ thread r here. ap (λ (x : Recording). events_of r.thread x.pushed) (opened.fresh thread r here) ∙ events_none r.thread;
  }
