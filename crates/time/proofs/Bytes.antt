-- Eight bytes, each by its own quotient, are those that write a number.
-- Assumes nothing.
use Rattle.std.proofs.Common.{◌≡◌, ◌/◌, w64, ℤ, of_z, to_z, SFits, arith}
use Rattle.std.proofs.lemmas.Int.{to_z-of_z}
use Rattle.std.specs.Int.{to_le_bytes}
use Rattle.raw.specs.Numbers.{bytes_of}

pub eight_bytes : (z : ℤ) → SFits w64 z → bytes_of 8 (of_z w64 z) ≡ to_le_bytes w64 (of_z w64 (to_z w64 (of_z w64 z)))
unfolding bytes_of
eight_bytes z f =
    let n = of_z w64 z in
    let two : n / 65536 ≡ n / 256 / 256 = omega arith in
    let three : n / 16777216 ≡ n / 256 / 256 / 256 = omega arith in
    let four : n / 4294967296 ≡ n / 256 / 256 / 256 / 256 = omega arith in
    let five : n / 1099511627776 ≡ n / 256 / 256 / 256 / 256 / 256 = omega arith in
    let six : n / 281474976710656 ≡ n / 256 / 256 / 256 / 256 / 256 / 256 = omega arith in
    let seven : n / 72057594037927936 ≡ n / 256 / 256 / 256 / 256 / 256 / 256 / 256 = omega arith in
    rw (to_z-of_z, two, three, four, five, six, seven)
