-- What the proofs of the handle of a session share. Assumes `Logic`.
use mathlib.Core.Path.{◌≡◌, refl, subst}
use Prim.Native.Nat.{ℕ}
use mathlib.Core.List.{List, [], ◌∷◌, ◌++◌}
use lib.Dec.{T, lit<}
use seplogic.Ra.Ura.{Ura}
use mir.Syntax.{impl, tnil, dnil}
use mir.Raw.{raw as bare}
use mir.Val.{Val, vnull, vstruct, vcons, vnil, of_list, has_ty, WT}
use base.Logic.{via, guard_i, fst∗, snd∗, never}
use base.Fraction.{full_share}
use types.Logic.{Logic, sem}
use contract.Monad.{fact_use}
use types.Kit.{Goal, Seq, Step, step, Item, ‵, given, learn, ◌$◌, move, drop, use1, fsplit, fjoin, fpick, fpack, feq_l, feq_i}
use denote.RattleType.{RattleType, Valss}
use denote.Builtin.{RawPtr}
use denote.Memory.{part_at}
use denote.Param.{layout}
use denote.RawPtr.{Ptr, block_ptr, null_ptr, ptr_val, in_a_block, Testable}
use denote.Signature.{Slot, plain}
use denote.Steps.{nothing}
use denote.Struct.Struct.{within}
use denote.Struct.Owning.{shape, to}
use Rattle.std.specs.Prelude.{Option, Some, None}
use Rattle.std.specs.Box.Ownership.{box_owns}
use Rattle.std.specs.Global.{Global}
use Rattle.std.proofs.GlobalToken.{dealloc_token-Testable}
use Rattle.std.proofs.alloc.Calls.{Fits, handle_tells, token}
use Rattle.std_alloc.proofs.BoxSteps.Form.{Bx, P, R, τ, word, handle}
use Rattle.std_alloc.proofs.ResultValues.{and_tt}
use Rattle.std_heap.specs.contracts.Global as Heap
use Rattle.std_heap.specs.contracts.GlobalAllocator.TheImpl.{ghosts, dict}
use Rattle.std_heap.proofs.Global.TheLaws as heap
use Rattle.gl_c.specs.Handles.{handle_owns}
use Rattle.gl_c.specs.contracts.session_state.SessionState as Content
use Rattle.gl_c.proofs.session_state.SessionState.TheLaws as content
use Rattle.gl_c.specs.contracts.loose.Loose as Loose
use Rattle.gl_c.specs.contracts.session.Session as Lane

-- the box of the content
abbrev pub E : Bx
E = record { row = Content.the_row; laws = content.the_row_laws; al = record { row = Heap.the_row; laws = heap.the_row_laws; g = ghosts; d = dict; drops = impl [] tnil dnil } }

abbrev pub Lr : RattleType
Lr = Loose.the_row Content.the_row Heap.the_row ghosts

abbrev pub FromLoose : Slot 0
FromLoose = plain (λ _. Lr)

abbrev pub FromLane : Slot 0
FromLane = plain (λ _. Lane.the_row)

abbrev pub FromGlobal : Slot 0
FromGlobal = plain (λ _. Heap.the_row)

-- the machine's value of a handle whose pointer is null
abbrev pub null_word : Val → Val
null_word hv = vstruct (vcons vnull (vcons hv vnil))

pub null_typed : (hv : Val) → Fits E.al hv → T (has_ty (layout Lane.the_row) (null_word hv)) × WT (null_word hv)
null_typed hv fa = (and_tt (has_ty (layout Heap.the_row) hv) fa.0, (record { fits = lit< tt }, (fa.1, tt)))

module _ {M : Type 1} {𝓤 : Ura M} {𝓛 : Logic 𝓤} {K : Type 0} {Γ : List (Item 𝓤)} {G : Goal 𝓤 𝓛.H} where
  -- a handle owns nothing at null, and else its value's box
  pub either : K → (alloc : Global) (p : Ptr) (v : Option (Content.the_row).Denot)
      → (v ≡ None → p ≡ null_ptr → Seq K 𝓛 Γ G)
      → ((x : (Content.the_row).Denot) (b o : ℕ) → v ≡ Some x → p ≡ block_ptr b o → Testable (block_ptr b o) → Seq K 𝓛 (‵ (part_at (R E) full_share x b o) ∷ ‵ (token E.al alloc (bare (τ E)) (block_ptr b o)) ∷ Γ) G)
      → Seq K 𝓛 (‵ (handle_owns Content.the_row alloc p v) ∷ Γ) G
  either t alloc p None none some = feq_l t (λ e. none refl e)
  either t alloc p (Some x) none some =
      in_a_block t p (λ q. box_owns (token E.al alloc) (R E) q x) (fst∗ 𝓤 (never 𝓤) (sem 𝓛 (token E.al alloc (bare (τ E)) null_ptr))) (λ b o e.
      use1 𝓛 (given (Testable (block_ptr b o)) (‵ (box_owns (token E.al alloc) (R E) (block_ptr b o) x)))
      (fact_use 𝓤 (Testable (block_ptr b o)) (via 𝓤 _ (snd∗ 𝓤 (sem 𝓛 (part_at (R E) full_share x b o)) (sem 𝓛 (token E.al alloc (bare (τ E)) (block_ptr b o)))) (dealloc_token-Testable 𝓛 alloc (bare (τ E)) (block_ptr b o)))
      (guard_i 𝓤 (Testable (block_ptr b o)) (sem 𝓛 (box_owns (token E.al alloc) (R E) (block_ptr b o) x)))) $
      learn t (λ test. fsplit t $ some x b o refl e test))

module _ {M : Type 1} {𝓤 : Ura M} {𝓛 : Logic 𝓤} {K : Type 0} {Γ : List (Item 𝓤)} {G : Goal 𝓤 𝓛.H} where
  -- a handle is taken apart
  pub lane_out : K → (d : (Lane.the_row).Denot) (vs : List Val)
      → ((hv : Val) → d.value ≡ None → vs ≡ null_word hv ∷ [] → Fits E.al hv → Seq K 𝓛 (‵ (handle E d.alloc hv) ∷ Γ) G)
      → ((x : (Content.the_row).Denot) (b o : ℕ) (hv : Val) → d.value ≡ Some x → vs ≡ word E hv b o ∷ [] → Testable (block_ptr b o) → Fits E.al hv
      → Seq K 𝓛 (‵ (part_at (R E) full_share x b o) ∷ ‵ (token E.al d.alloc (bare (τ E)) (block_ptr b o)) ∷ ‵ (handle E d.alloc hv) ∷ Γ) G)
      → Seq K 𝓛 (‵ ((Lane.the_row).own_val d vs) ∷ Γ) G
  lane_out t d vs none some =
      fsplit t $ fpick t (λ vss. fsplit t $ feq_l t (λ ev. fsplit t $ feq_l t (λ ep. fsplit t $ handle_tells E.al t d.alloc vss.1.0 (λ hv ea fa. move t (1 ∷ []) $ drop t $ move t (1 ∷ []) $
      let word_is : vs ≡ vstruct (of_list (ptr_val d.at ∷ hv ∷ [])) ∷ [] =
      subst (λ (ws : List Val). vs ≡ vstruct (of_list (ptr_val d.at ∷ (ws ++ []))) ∷ []) ea (subst (λ (ps : List Val). vs ≡ vstruct (of_list (ps ++ (vss.1.0 ++ []))) ∷ []) ep ev) in
      either t d.alloc d.at d.value
      (λ en e. none hv en (subst (λ (p : Ptr). vs ≡ vstruct (of_list (ptr_val p ∷ hv ∷ [])) ∷ []) e word_is) fa)
      (λ x b o ex e test. some x b o hv ex (subst (λ (p : Ptr). vs ≡ vstruct (of_list (ptr_val p ∷ hv ∷ [])) ∷ []) e word_is) test fa)))))

  -- a handle of no value is made
  pub null_in : K → {hv : Val} (a : Global)
      → Step K 𝓛 (‵ ((Lane.the_row).own_val (record { at = null_ptr; alloc = a; value = None }) (null_word hv ∷ [])) ∷ Γ) G (‵ (handle E a hv) ∷ Γ) G
  null_in t {hv} a = step (λ s.
      feq_i t Ptr null_ptr null_ptr refl $ nothing t $ move t (2 ∷ 0 ∷ []) $ fjoin t $ feq_i t (List Val) (vnull ∷ []) (ptr_val null_ptr ∷ []) refl $ fjoin t $
      feq_i t (List Val) (null_word hv ∷ []) (null_word hv ∷ []) refl $ fjoin t $
      fpack t (Valss (RawPtr ∷ P E ∷ [])) (within (shape Lane.the_type) (to Lane.the_type (record { at = null_ptr; alloc = a; value = None })) (null_word hv ∷ [])) (vnull ∷ [], (hv ∷ [], tt)) $ fjoin t $ s)
