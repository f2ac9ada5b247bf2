-- The numbers that the tests of a submission give, whatever they are asked.
use Rattle.peers.specs.Peers.{Standing}
use Rattle.std.specs.Prelude.{ℕ, ◌+◌, ◌≡◌, Bool, false, not, ◌&&◌, List, [], ◌∷◌, leb, ltb}
use Rattle.std.proofs.Math.Path.{refl}
use Rattle.std.proofs.Math.Bool.{true}
use Rattle.words.specs.Lists.{pick}
use Rattle.words.specs.Sums.{cap}
use Rattle.pool_types.specs.declared.Mempool.{Mempool}
use Rattle.pool_types.specs.declared.Submission.{Submission}
use Rattle.arguments.specs.Arguments.{whole, fee_of}
use Rattle.peers.specs.Peers.{at_limit, none_free}
use Rattle.boxes.specs.Among.{among}
use Rattle.checks.specs.Checks.{dear, call_refusal, peer_refusal}

-- a submission's refusals: all but 6, 11 and 21, which are of other calls
abbrev pub refusals : List ℕ
refusals = 1 ∷ 2 ∷ 3 ∷ 4 ∷ 5 ∷ 7 ∷ 8 ∷ 9 ∷ 10 ∷ 20 ∷ 22 ∷ 23 ∷ 24 ∷ 25 ∷ 26 ∷ 27 ∷ 28 ∷ 29 ∷ 30 ∷ []

-- a number that a chain of tests gives: 0, or one of these
pub record Code (n : ℕ) : Type 0 where
  pub is : among n (0 ∷ refusals) ≡ true

-- one way or the other
pub either : (t : Bool) (m n : ℕ) → Code m → Code n → Code (pick t m n)
either true m n p q = p
either false m n p q = q

-- a test with its number, and those behind it
pub gives : (t : Bool) (m n : ℕ) → among m (0 ∷ refusals) ≡ true → Code n → Code (pick t m n)
gives t m n p q = either t m n (record { is = p }) q

pub passes : Code 0
passes = record { is = refl }

pub call-code : (st : Mempool) (room : ℕ) (a : Submission) (ins outs : List ℕ) → Code (call_refusal st room a ins outs)
unfolding call_refusal
call-code st room a ins outs =
    gives st.pass.open 20 _ refl
    (gives (not (whole 5 ins && whole 7 outs)) 1 _ refl
    (gives (ltb room (st.counts.pooled + 1)) 2 _ refl
    (gives (ltb 98304 a.size) 3 _ refl
    (gives (ltb cap (fee_of outs)) 4 _ refl
    (gives (dear a.verdict) 5 _ refl passes)))))

pub peer-code : (st : Mempool) (at : Standing) → Code (peer_refusal st at)
unfolding peer_refusal
peer-code st at =
    gives (leb st.config.cost_per_block st.sums.interblock_cost) 24 _ refl
    (gives (at_limit st.config.cost_per_peer_per_block at) 25 _ refl
    (gives (none_free 256 st.sums.peers at) 26 _ refl passes))
