-- `buckets::place_in` meets its contract: both factors are below half a word, so the product fits a word. Assumes nothing.
use Rattle.std.proofs.Common.{◌≡◌, ℕ, ◌*◌, ◌/◌, ◌%◌, ◌^◌, ◌<◌, ◌≤◌, ltb, sym, subst, arith, le-ltb, lt-ltb}
use Rattle.words.specs.Lists.{yes, no}
use Rattle.words.specs.Buckets.{place_in, place-low}
use Rattle.words.proofs.buckets.place_in.Goals as goal

is-high : (x n : ℕ) → n < 2 ^ 32 → place_in x n ≡ x * n / 2 ^ 32
unfolding place_in
is-high x n h = yes (ltb n (2 ^ 32)) (x * n / 2 ^ 32) (x % n) (lt-ltb n (2 ^ 32) h)

is-rest : (x n : ℕ) → 2 ^ 32 ≤ n → place_in x n ≡ x % n
unfolding place_in
is-rest x n h = no (ltb n (2 ^ 32)) (x * n / 2 ^ 32) (x % n) (le-ltb n (2 ^ 32) h)

pub returns-then-m-lt-HALF : goal.returns-then-m-lt-HALF
returns-then-m-lt-HALF c =
    let x = c.args.x in
    let n = c.args.n in
    let e = is-high x n (omega (arith, c.if-m-lt-HALF.true)) in
    (sym e, subst (λ (r : ℕ). r < n) e (place-low x n (omega arith) (omega arith)))

pub returns : goal.returns
returns c =
    let x = c.args.x in
    let n = c.args.n in
    let e = is-rest x n (omega (arith, c.if-m-lt-HALF.false)) in
    (sym e, subst (λ (r : ℕ). r < n) e (place-low x n (omega arith) (omega arith)))
