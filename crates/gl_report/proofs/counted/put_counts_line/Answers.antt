use Rattle.std.proofs.Common.{◌++◌, refl}
use Rattle.std.specs.Prelude.{codes, decimal}
use Rattle.gl_report.proofs.Parts.{two_parts}
use Rattle.gl_report.proofs.counted.put_counts_line.Goals as goal

pub returns : goal.returns
returns c =
    let start = c.args.out.now.items in
    let counts = c.args.counts.now in
    let first = codes "    threads: " ++ decimal counts.threads in
    let second = first ++ codes ", locks: " in
    let third = second ++ decimal counts.locks in
    let threads = two_parts start c.extend_from_slice.new.self.items c.put_number.new.out.items (codes "    threads: ") (decimal counts.threads) first c.in_ok-extend_from_slice.ensures.items c.in_ok-put_number.ensures refl in
    let between = two_parts start c.put_number.new.out.items c.extend_from_slice-2.new.self.items first (codes ", locks: ") second threads c.in_ok-extend_from_slice-2.ensures.items refl in
    let locks = two_parts start c.extend_from_slice-2.new.self.items c.put_number-2.new.out.items second (decimal counts.locks) third between c.in_ok-put_number-2.ensures refl in
    two_parts start c.put_number-2.new.out.items c.extend_from_slice-3.new.self.items third (codes "\n") (third ++ codes "\n") locks c.in_ok-extend_from_slice-3.ensures.items refl
