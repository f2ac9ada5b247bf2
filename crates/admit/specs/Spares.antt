-- What a refusal leaves word by word (document 01: "Unless said, nothing changes and no answer byte is written."), on any words.
use Rattle.std.specs.Prelude.{ℕ, ◌≡◌, refl, false, List, eqb}
use Rattle.std.proofs.lemmas.Bool.{eqb-false}
use Rattle.pool_types.specs.declared.Counts.{Counts}
use Rattle.pool_types.specs.declared.Refusal.TheVariants.{PoolFull}
use Rattle.pool_types.specs.declared.ProcessingOutcome.{ProcessingOutcome}
use Rattle.pool_types.specs.declared.ProcessingOutcome.TheVariants.{Declined, DoubleSpendLoser}
use Rattle.pool_types.specs.Outcomes.{refused, processed_of}

-- both tables and the counts are as they were
abbrev pub SameTables : List ℕ → List ℕ → Counts → List ℕ → List ℕ → Counts → Type 0
SameTables e b c e' b' c' = (e' ≡ e) × (b' ≡ b) × (c' ≡ c)

-- words e and b of the tables with counts c, and an answer buffer a, before; e', b', c', a' after the outcome o
pub record SparesWords (e b a : List ℕ) (c : Counts) (e' b' a' : List ℕ) (c' : Counts) (o : ProcessingOutcome) : Type 0 where
  -- a refusal changes no word of the tables, but for 30: "removal of losers" stands
  pub tables : (j i : ℕ) → processed_of o ≡ refused j i → eqb j 30 ≡ false → SameTables e b c e' b' c'
  -- a refusal writes no answer word, but for 29: "their ids are written"
  pub answer : (j i : ℕ) → processed_of o ≡ refused j i → eqb j 29 ≡ false → a' ≡ a

-- ---- 30, or the newcomer takes its place: from the losers' removal on a refusal changes nothing, and it is 30

pub record Unmoved (e b a : List ℕ) (c : Counts) (e' b' a' : List ℕ) (c' : Counts) (o : ProcessingOutcome) : Type 0 where
  pub full : (j i : ℕ) → processed_of o ≡ refused j i → j ≡ 30
  pub tables : (j i : ℕ) → processed_of o ≡ refused j i → SameTables e b c e' b' c'
  pub answer : (j i : ℕ) → processed_of o ≡ refused j i → a' ≡ a

pub unmoved_full : (e b a : List ℕ) (c : Counts) → Unmoved e b a c e b a c (Declined PoolFull)
unfolding processed_of
unmoved_full e b a c = record { full = λ j i q. cc; tables = λ j i q. (refl, refl, refl); answer = λ j i q. refl }

-- ---- 29

pub spares_lost : (e b a : List ℕ) (c : Counts) (a' : List ℕ) (k : ℕ) → SparesWords e b a c e b a' c (DoubleSpendLoser k)
unfolding processed_of
spares_lost e b a c a' k = record { tables = λ j i q h. (refl, refl, refl); answer = λ j i q h. absurd (eqb-false j 29 h cc) }
