-- `wide::Wide::divide` meets its contract. The loop's invariant: the quotient and the rest are those of the number from bit `at` up (`part_of`); a turn is
-- the law's step (`part_step`). The measure is `at`. Assumes nothing.
use Rattle.std.proofs.Common.{◌≡◌, ℕ, ◌+◌, ◌-◌, ◌*◌, ◌/◌, ◌%◌, ◌^◌, ◌<◌, ◌≤◌, ap, ◌∙◌, one-mul, arith, lit<, shl_exact}
use lib.Pow.{mod-mod-pow}
use Rattle.words.specs.declared.wide.Part.{Part}
use Rattle.words.specs.Wide.{wide_of}
use Rattle.words.specs.Divide.{fits_word, Serves, serves-less, Ready, stepped, part_of, first-within, part-all, part_step, part-ready}
use Rattle.words.proofs.wide.Wide.divide.Goals as goal

base : (s : ℕ) → s < 64 → 1 * 2 ^ s % 2 ^ 64 ≡ 2 ^ s
base s h = shl_exact {a = 1} 1 s 64 (lit< tt) (omega arith) ∙ one-mul (2 ^ s)

-- a turn from bit a, by s bits of the word x that ends where they end
module _ (n d a s x : ℕ) (t : Part) (pos : 0 < d) (k : Serves d s) (le : s ≤ a) (is : x ≡ n / 2 ^ (a - s) % 2 ^ 64) (inv : t ≡ part_of n d a) where
  from : t ≡ part_of n d (a - s + s)
  from = let e : a ≡ a - s + s = omega arith in inv ∙ ap (part_of n d) e

  digit : x % (1 * 2 ^ s % 2 ^ 64) ≡ n / 2 ^ (a - s) % 2 ^ s
  digit =
      let e : 64 ≡ 64 - s + s = omega (arith, k.few) in
      rw (base s k.few, is) (ap (λ (y : ℕ). n / 2 ^ (a - s) % 2 ^ y % 2 ^ s) e ∙ mod-mod-pow (n / 2 ^ (a - s)) (64 - s) s)

  turn-ready : n / d < 2 ^ 64 → Ready t (x % (1 * 2 ^ s % 2 ^ 64)) d s
  turn-ready full = rw (from, digit) (part-ready n d (a - s) s pos full k)

  turn-done : stepped t (x % (1 * 2 ^ s % 2 ^ 64)) d s ≡ part_of n d (a - s)
  turn-done = rw (from, digit) (part_step n d (a - s) s pos)

pub first_step-t-requires : goal.first_step-t-requires
first_step-t-requires c = (omega arith, omega (arith, c.bits-at.ensures.room), first-within c.bits-at.ensures c.min-at.result c.min-at.ensures)

pub step-t-requires : goal.step-t-requires
step-t-requires c =
    let a = c in
    let l = c.loop-at in
    turn-ready (wide_of a.args.self) a.args.d l.at c.min-size.result c.word_at.result l.t (omega arith) (serves-less c.step_bits-most.ensures (omega arith) (omega arith)) (omega arith) c.word_at.ensures l.invariant.1
    (fits_word a.args.self a.requires (omega arith))

pub loop-at-preserved : goal.loop-at-preserved
loop-at-preserved c =
    let a = c.args in
    let l = c.loop-at in (
      omega arith,
      c.step-t.ensures
          ∙ turn-done (wide_of a.self) a.d l.at c.min-size.result c.word_at.result l.t (omega arith) (serves-less c.step_bits-most.ensures (omega arith) (omega arith)) (omega arith) c.word_at.ensures l.invariant.1,
    )

pub returns : goal.returns
returns c =
    let a = c.args in
    let l = c.loop-at in
    let e : l.at ≡ 0 = omega arith in
    ap (λ (t : Part). t.quotient) (l.invariant.1 ∙ ap (part_of (wide_of a.self) a.d) e) ∙ part-all (wide_of a.self) a.d
