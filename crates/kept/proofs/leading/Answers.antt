-- The count is that of the zeros at the front of the first n groups.
-- Assumes nothing.
use Rattle.std.proofs.Common.{◌≡◌, ℕ, eqb, take, length, rules, tests, arith, sym, ◌∙◌}
use Rattle.std.specs.List.{prefix_len}
use Rattle.std.proofs.lemmas.Iterator.{YieldsList-from_slice, YieldsList-from_take}
use Rattle.std.proofs.lemmas.Iterator.Consumers.{count_from_yields_List}
use Rattle.std.proofs.lemmas.Iterator.Search.{YieldsList-from_take_while}
use Rattle.std.proofs.lemmas.List.{length-take}
use Rattle.std.proofs.lemmas.List.Folds.{length-prefix_len}
use Rattle.kept.proofs.Ends.{leading-prefix}
use Rattle.kept.proofs.leading.Goals as goal

pub returns : goal.returns
returns c =
    let gs = c.args.groups.now in
    let n = c.args.n in
    let test = λ (g : ℕ). eqb g 0 in
    let e = count_from_yields_List c.take_while.result c.count.result c.count.ensures.ran (YieldsList-from_take_while _ test (YieldsList-from_take n (YieldsList-from_slice gs cc) cc) c.take_while.ensures.closure c.take_while.ensures.done (λ x b q k. search (rules, tests))) in
    let m = length-prefix_len test (take n gs) in
    let l = leading-prefix n gs in
    let b = length-take (prefix_len test (take n gs)) (take n gs) in
    let d = length-take n gs in
    let g : length gs ≡ 9 = c.told-groups in
    (e ∙ m ∙ sym l, omega arith)
