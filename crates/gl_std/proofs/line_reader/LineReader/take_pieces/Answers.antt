use Rattle.std.proofs.Common.{◌≡◌, ◌++◌, ◌+◌, ◌<◌, ℕ, Result, Ok, Err, get_or, set, length, length-append, take, refl, sym, ap, subst, ◌∙◌, inl, inr, arith}
use Rattle.std.proofs.lemmas.Bool.{cases_eq}
use Rattle.std.proofs.lemmas.List.{get_or-set_other, get_or-set_same, take_all, with_items_is}
use Rattle.std.proofs.lemmas.Grind.{common_steps}
use Rattle.std.proofs.lemmas.Result.{err_from_is_err_and}
use Rattle.gl_std.specs.declared.faults.ReadFault.{ReadFault}
use Rattle.gl_std.specs.declared.faults.ReadFault.TheVariants.{Line}
use Rattle.gl_std.specs.declared.faults.StdKind.{StdKind}
use Rattle.gl_std.specs.bodies.Ahead.{bytes_of, text_of, AreRight, CanJudgeText, IsCut, IsRightPiece, IsShort, OnlyJudges, TakesPiece}
use Rattle.gl_std.proofs.NumberedLines.{go_on_itself}
use Rattle.gl_std.proofs.PiecesAhead.{failed_next, only_next, right_piece, taken_next, taken_no_piece, text_take_next, text_take_rest}
use Rattle.gl_std.proofs.line_reader.LineReader.take_pieces.Goals as goal

pub loop-piece-init : goal.loop-piece-init
loop-piece-init c = record {
  taken = taken_no_piece c.args.self.now c.args.lists.now;
  only = record { sound = c.requires.can.sound; few = c.requires.can.few; same_limits = refl; lines = omega arith; grows = go_on_itself c.args.self.now.judge.names };
  rest = λ k d low. refl;
  right = λ k d low. absurd (omega (arith, low));
}

pub take_piece-requires : goal.take_piece-requires
take_piece-requires c =
    let so_far = c.loop-piece.invariant in
    let all = c.deref_mut-piece-items.result.now in
    let i = c.loop-piece.piece-index in
    let one = c.piece-item.result in
    let within : i < length all = c.loop-piece-test.true in
    let same = so_far.rest i one (omega arith) in
    let is : one ≡ get_or all i one = c.piece-item.is ∙ same in
    let given : get_or c.args.pieces.now.items i one ≡ get_or c.loop-piece.piece-items i one = ap (λ ps. get_or ps i one) (sym c.deref_mut-piece-items.ensures.value) ∙ sym same in
    let size = ap length c.deref_mut-piece-items.ensures.value in
    let there : i < length c.args.pieces.now.items = omega (arith, within, size) in
    let rest = text_take_rest all i one within is in
    let front = text_of (take i all) in
    let whole = ap length rest.1 in
    let text = ap (λ ps. length (text_of ps)) c.deref_mut-piece-items.ensures.value in
    record {
      can = subst (λ p. CanJudgeText c.loop-piece.self (length (bytes_of p))) c.piece-item.is
          (record {
            sound = so_far.only.sound;
            few = so_far.only.few;
            countable = omega (arith, whole, text, length-append (front ++ bytes_of one) rest.0, length-append front (bytes_of one), so_far.only.lines, c.requires.can.countable);
          });
      short = subst IsShort given (c.requires.can.short i one there);
      cut = subst IsCut given (c.requires.can.cut i one there);
      right = right_piece c.args.self.now.judge.names c.loop-piece.self.judge.names (get_or c.loop-piece.piece-items i one) so_far.only.grows (subst (IsRightPiece c.args.self.now.judge.names) given (c.requires.right i one there));
    }

pub loop-piece-preserved : goal.loop-piece-preserved
loop-piece-preserved c =
    let so_far = c.loop-piece.invariant in
    let all = c.deref_mut-piece-items.result.now in
    let now = c.loop-piece.piece-items in
    let i = c.loop-piece.piece-index in
    let one = c.piece-item.result in
    let at = get_or now i one in
    let new = c.take_piece.new.self in
    let later = c.take_piece.new.piece in
    let within : i < length all = c.loop-piece-test.true in
    let there : i < length now = omega (arith, within, c.loop-piece.auto.piece-items) in
    let front = text_of (take i all) in
    let is : front ++ bytes_of at ≡ text_of (take (i + 1) all) = ap (λ p. front ++ bytes_of p) (sym c.piece-item.is) ∙ sym (text_take_next all i one within (c.piece-item.is ∙ so_far.rest i one (omega arith))) in
    let judged = c.in_ok-take_piece.ensures.judges in
    record {
      taken = taken_next c.args.self.now c.loop-piece.self new c.args.lists.now c.loop-piece.lists c.take_piece.new.lists front (bytes_of at) _ is so_far.taken judged.tells;
      only = only_next c.args.self.now c.loop-piece.self new (length front) (length (bytes_of at)) _ (sym (length-append front (bytes_of at)) ∙ ap length is) so_far.only judged.only;
      rest = λ k d low. get_or-set_other now i k later d (omega (arith, low)) ∙ so_far.rest k d (omega (arith, low));
      right = λ k d low. elim (cases_eq k i) [
        | inl same ↦ subst (λ n. IsRightPiece new.judge.names (get_or (set now i later) n d)) (sym same) (subst (IsRightPiece new.judge.names) (sym (get_or-set_same now i later d there)) c.in_ok-take_piece.ensures.right)
        | inr other ↦
            subst (IsRightPiece new.judge.names) (sym (get_or-set_other now i k later d other))
            (right_piece c.loop-piece.self.judge.names new.judge.names (get_or now k d) judged.only.grows (so_far.right k d (omega (arith, low, other))))
      ];
    }

-- a line of it is at fault, or memory was refused
pub returns-in_err-take_piece : goal.returns-in_err-take_piece
returns-in_err-take_piece c =
    let so_far = c.loop-piece.invariant in
    let all = c.deref_mut-piece-items.result.now in
    let i = c.loop-piece.piece-index in
    let one = c.piece-item.result in
    let at = get_or c.loop-piece.piece-items i one in
    let within : i < length all = c.loop-piece-test.true in
    let rest = text_take_rest all i one within (c.piece-item.is ∙ so_far.rest i one (omega arith)) in
    let front = text_of (take i all) in
    let is = ap (λ p. (front ++ bytes_of p) ++ rest.0) (sym c.piece-item.is) ∙ rest.1 ∙ ap text_of c.deref_mut-piece-items.ensures.value in
    let p = err_from_is_err_and c.from_residual.result c.from_residual.ensures.1 in
    record {
      judges = record {
        tells = rw p.1 tt;
        fault = failed_next c.args.self.now c.loop-piece.self c.args.lists.now c.loop-piece.lists front (bytes_of at) rest.0 (text_of c.args.pieces.now.items) c.take_piece.result _ is so_far.taken so_far.only.same_limits c.take_piece.ensures.judges.fault
            (λ number kind is. let was = c.in_err-take_piece.was in let of = c.from_residual.ensures in grind (arith, common_steps, was, of, is));
        only = rw p.1 tt;
      };
      right = rw p.1 tt;
    }

-- all were judged
pub returns : goal.returns
returns c =
    let so_far = c.loop-piece.invariant in
    let given = c.deref_mut-piece-items.result.now in
    let all = ap text_of (take_all c.loop-piece.piece-index given (omega (arith, c.loop-piece-test.false)) ∙ c.deref_mut-piece-items.ensures.value) in
    let size = ap length c.deref_mut-piece-items.ensures.value in
    record {
      judges = record {
        tells = subst (λ t. TakesPiece c.args.self.now c.args.lists.now t c.loop-piece.self c.loop-piece.lists) all so_far.taken;
        fault = λ number kind is. absurd (ok_err is);
        only = subst (λ t. OnlyJudges c.args.self.now c.loop-piece.self (length t)) all so_far.only;
      };
      right = subst (AreRight c.loop-piece.self.judge.names) (sym (with_items_is c.args.pieces.now c.loop-piece.piece-items (omega (arith, size, c.loop-piece.auto.piece-items)))) (λ k d within. so_far.right k d (omega (arith, within, c.loop-piece-test.false, c.loop-piece.auto.piece-items)));
    }
  where
    ok_err : {number : ℕ} {kind : StdKind} → ◌≡◌ {A = Result (Unit {0}) ReadFault} (Ok tt) (Err (Line number kind)) → ⊥
    ok_err e = cc
