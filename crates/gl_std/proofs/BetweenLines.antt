-- What is known of a text between two of its lines.
use Rattle.std.proofs.Common.{◌≡◌, ℕ, ◌+◌, List, [], ◌∷◌, Result, Ok, Err, sym, ap, ◌∙◌}
use Rattle.gl_event.specs.Bounds.{Bounds}
use Rattle.gl_std.specs.Trace.{after_line, and_then, read_from}
use Rattle.gl_std.specs.declared.faults.ReadFault.{ReadFault}
use Rattle.gl_std.specs.declared.trace.Trace.{Trace}

-- after a line that isn't at fault the text is what it was
pub line_on : (limits limits2 : Bounds) (number next : ℕ) (told more : Trace) (line : List ℕ) (ls rest : List (List ℕ)) (all : Result Trace ReadFault) → limits2 ≡ limits → next ≡ number + 1 → ls ≡ line ∷ rest → after_line limits2 number told line ≡ Ok more → read_from limits number told ls ≡ all → read_from limits next more rest ≡ all
line_on limits limits2 number next told more line ls rest all same is first after so_far =
    ap (λ n. read_from limits n more rest) is
    ∙ sym (ap (λ r. and_then r (λ t. read_from limits (number + 1) t rest)) (ap (λ l. after_line l number told line) (sym same) ∙ after))
    ∙ sym (ap (read_from limits number told) first) ∙ so_far

-- a line at fault is the text's first one
pub line_fault : (limits limits2 : Bounds) (number : ℕ) (told : Trace) (line : List ℕ) (ls rest : List (List ℕ)) (all : Result Trace ReadFault) (fault : ReadFault) → limits2 ≡ limits → ls ≡ line ∷ rest → after_line limits2 number told line ≡ Err fault → read_from limits number told ls ≡ all → all ≡ Err fault
line_fault limits limits2 number told line ls rest all fault same first after so_far =
    sym so_far ∙ ap (read_from limits number told) first
    ∙ ap (λ r. and_then r (λ t. read_from limits (number + 1) t rest)) (ap (λ l. after_line l number told line) (sym same) ∙ after)

-- after the last line all was told
pub no_line : (limits : Bounds) (number : ℕ) (told : Trace) (ls : List (List ℕ)) (all : Result Trace ReadFault) → ls ≡ [] → read_from limits number told ls ≡ all → all ≡ Ok told
no_line limits number told ls all none so_far = sym so_far ∙ ap (read_from limits number told) none
