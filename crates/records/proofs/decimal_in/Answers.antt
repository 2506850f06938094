-- `records::decimal_in` meets its contract: the nine numbers that are copied are those from the fourth on.
-- Assumes nothing.
use Rattle.std.proofs.Common.{◌≡◌, ℕ, ◌+◌, List, length, get_or, take, drop, ap, ◌∙◌, arith}
use lib.Seq.{get_or-take, get_or-drop}
use borrow.Author.Tests.{le-ltb}
use Rattle.groups.specs.Numbers.{tab}
use Rattle.groups.proofs.Tab.{filled}
use Rattle.records.specs.Records.{decimal_by, decimal_in}
use Rattle.records.proofs.decimal_in.Goals as goal

fourth_on : (xs gs : List ℕ) → length gs ≡ 9 → gs ≡ take 9 (drop 3 xs) → gs ≡ tab 9 (λ k. get_or xs (k + 3) 0)
fourth_on xs gs n e =
    filled 9 (λ k. get_or xs (k + 3) 0) gs n (λ k l. rw e (get_or-take 9 (drop 3 xs) k 0 l ∙ get_or-drop 3 xs k 0 ∙ ap (λ (j : ℕ). get_or xs j 0) (omega arith)))

pub returns : goal.returns
unfolding decimal_by decimal_in
returns c =
    let xs = c.args.xs.now in
    let h = c.copy_from_slice.ensures in
    let g = fourth_on xs c.copy_from_slice.new.self h.len h.after in
    simp (le-ltb (length xs) 12 c.if-xs-lt12.false, ← g)
