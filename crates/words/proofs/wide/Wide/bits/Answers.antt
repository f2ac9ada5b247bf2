-- `wide::Wide::bits` meets its contract: the leading zeros of the high word, or of the low word where the high word is 0, and the length make the words' bits.
-- Assumes nothing.
use Rattle.std.proofs.Common.{◌≡◌, ℕ, suc, ◌+◌, ◌-◌, ◌*◌, ◌^◌, ◌<◌, pow-suc, arith, pow-add}
use lib.Arith.{digits_lt}
use lib.Count.{count_leading_zeros, leading_top, leading_length}
use Rattle.words.specs.Wide.{wide_of}
use Rattle.words.specs.Divide.{Length}
use Rattle.words.proofs.wide.Wide.bits.Goals as goal

length-low : (h l : ℕ) → h ≡ 0 → l < 2 ^ 64 → Length (h * 2 ^ 64 + l) (64 - count_leading_zeros 64 l)
length-low h l z b =
    let t = leading_length 64 l b in
    let e : 64 - count_leading_zeros 64 l ≡ t.0 = omega (arith, t.1) in
    rw e (record { below = omega (arith, t.2); least = omega (arith, t.3); room = omega (arith, t.1) })

length_high : (h l : ℕ) → 0 < h → h < 2 ^ 64 → l < 2 ^ 64 → Length (h * 2 ^ 64 + l) (128 - count_leading_zeros 64 h)
length_high h l p a b =
    let t = leading_top 64 h p a in
    let e : 128 - count_leading_zeros 64 h ≡ suc t.0 + 64 = omega (arith, t.1) in
    let f : 2 ^ (suc t.0 + 64) ≡ 2 ^ suc t.0 * 2 ^ 64 = pow-add 2 (suc t.0) 64 in
    rw e (record { below = rw f (digits_lt t.3 b); least = omega (arith, f, pow-suc 2 t.0, t.2); room = omega (arith, t.1) })

pub returns-then-self-ne0 : goal.returns-then-self-ne0
unfolding wide_of
returns-then-self-ne0 c = let w = c.args.self in length_high w.high w.low (omega (arith, c.if-self-ne0.true)) (omega arith) (omega arith)

pub returns : goal.returns
unfolding wide_of
returns c = let w = c.args.self in length-low w.high w.low c.if-self-ne0.false (omega arith)
