use Rattle.std.proofs.Common.{◌≡◌, ◌≢◌, ◌+◌, ◌≤◌, eqb, not, cond, length, take, drop, map, ℕ, List, sym, ap, ◌∙◌, arith, w8}
use Rattle.std.specs.List.{prefix_len}
use Rattle.std.proofs.lemmas.Simd.{bitmask_splat, first_set_mask_l, length-chunk}
use Rattle.std.proofs.lemmas.Bool.{ne_eqb}
use lib.Lanes.{mask_l}
use lib.Count.{count_trailing_zeros}
use Rattle.gl_bytes.proofs.near.run_before.Goals as goal

-- sixteen where no bit is set, and else the lowest one
abbrev lowest_or_all : ℕ → ℕ
lowest_or_all mask = cond (eqb mask 0) 16 (count_trailing_zeros 64 mask)

lowest_where_set : (mask : ℕ) → mask ≢ 0 → count_trailing_zeros 64 mask ≡ lowest_or_all mask
lowest_where_set mask set = ap (λ b. cond b 16 (count_trailing_zeros 64 mask)) (sym (ne_eqb mask 0 set))

lowest_is_run : (byte at : ℕ) (text : List ℕ) → at + 16 ≤ length text → lowest_or_all (mask_l (map (λ b. eqb b byte) (take 16 (drop at text)))) ≡ prefix_len (λ b. not (eqb b byte)) (take 16 (drop at text))
lowest_is_run byte at text room = first_set_mask_l (λ b. eqb b byte) (take 16 (drop at text)) 16 (length-chunk at 16 text room) (omega arith)

pub returns-then-marked-eq0 : goal.returns-then-marked-eq0
returns-then-marked-eq0 c =
    let text = c.args.text.now in
    let byte = c.args.byte in
    let mask = bitmask_splat w8 eqb (take 16 (drop c.args.at text)) 16 byte (length-chunk c.args.at 16 text c.requires) (omega arith) in
    ap lowest_or_all (sym c.if-marked-eq0.true ∙ mask) ∙ lowest_is_run byte c.args.at text c.requires

pub returns : goal.returns
returns c =
    let text = c.args.text.now in
    let byte = c.args.byte in
    let mask = bitmask_splat w8 eqb (take 16 (drop c.args.at text)) 16 byte (length-chunk c.args.at 16 text c.requires) (omega arith) in
    lowest_where_set _ c.if-marked-eq0.false ∙ ap lowest_or_all mask ∙ lowest_is_run byte c.args.at text c.requires
