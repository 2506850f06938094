-- A piece more is written.
-- Assumes nothing.
use Rattle.std.proofs.Common.{◌≡◌, ◌∙◌, refl, sym, arith}
use Rattle.std.proofs.Output.{has_written_append, has_written_of_eq}
use Rattle.std.specs.Prelude.{flat_map}
use Rattle.output.specs.Words.{two_digits}
use Rattle.output.proofs.Digits.{piece_more}
use Rattle.output.proofs.HexDisplay.fmt.Goals as goal

pub loop-rest-preserved : goal.loop-rest-preserved
loop-rest-preserved g c =
    let more = piece_more c.args.self.now.0.now c.loop-rest.rest.now c.split_at.result.0.now c.split_at.result.1.now c.min.result
    (omega arith) c.loop-rest.invariant.left c.split_at.ensures.front c.split_at.ensures.back in
    record {
      left = more.0;
      written = λ p. has_written_of_eq _ _ _ _ _ (sym more.1)
          (has_written_append _ _ _ _ _ _ (c.loop-rest.invariant.written p) (
          let digits : c.in-Ok.digits.now ≡ flat_map two_digits c.split_at.result.0.now = c.in-Ok.ensures.cases.0 ∙ c.put_digits.ensures in
          has_written_of_eq _ _ _ _ _ digits (c.in_ok-write_str.ensures.writes (c.loop-rest.invariant.written p).plain refl)));
    }
