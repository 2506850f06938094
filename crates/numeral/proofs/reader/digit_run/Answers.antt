-- The count is that of the digits at the front.
-- Assumes nothing.
use Rattle.std.proofs.Common.{◌≡◌, rules, tests, sym, ◌∙◌}
use Rattle.std.proofs.lemmas.Iterator.{YieldsList-from_slice}
use Rattle.std.proofs.lemmas.Iterator.Consumers.{count_from_yields_List}
use Rattle.std.proofs.lemmas.Iterator.Search.{YieldsList-from_take_while}
use Rattle.std.proofs.lemmas.List.Folds.{length-prefix_len}
use Rattle.numeral.specs.Read.{is_digit, run}
use Rattle.numeral.proofs.Scans.{run-prefix, run-le}
use Rattle.numeral.proofs.reader.digit_run.Goals as goal

pub returns : goal.returns
returns c =
    let t = c.args.text.now in
    let e = count_from_yields_List c.take_while.result c.count.result c.count.ensures.ran (YieldsList-from_take_while _ is_digit (YieldsList-from_slice t cc) c.take_while.ensures.closure c.take_while.ensures.done (λ x b q k. search (rules, tests))) in
    let r : c.count.result ≡ run t = e ∙ length-prefix_len is_digit t ∙ sym (run-prefix t) in
    (r, rw r (run-le t))
