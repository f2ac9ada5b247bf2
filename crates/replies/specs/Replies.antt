-- The lines that poolrun prints, as bytes and without the newline. Document 01 fixes `(unread N)`, `(refused N)`, "N its number", and "`pooled` has
-- id, weight, base"; docs/FORMS.md fixes the others. Ids are "printed in lower case, leading zeros dropped, 0 for zero"; numbers are decimal.
use Rattle.std.specs.Prelude.{ℕ, ◌≡◌, refl, List, [], ◌∷◌, ◌++◌, get_or}
use Rattle.words.specs.Lists.{flat}
use Rattle.words.specs.Rows.{rec_at, recs, length-recs, get_or-recs, take-recs}
use Rattle.words.specs.Tables.{Table}
use Rattle.forms.specs.Nums.{numeral, digit_byte, id_text, decimal_text}
use Rattle.peers.specs.declared.PeerRecord.{PeerRecord}
use Rattle.mempool.specs.Listing.{Row}

-- a text and the bracket that closes
abbrev pub closed : List ℕ → List ℕ
closed t = t ++ (41 ∷ [])

-- `(refused N)`, `(unread N)`, `(len N)`, `(fee N)`, `(wait N)`, `(ended SUM)`: the head is what stands before the number
unfoldable pub numbered : List ℕ → ℕ → List ℕ
numbered head n = closed (head ++ decimal_text n)

-- `(accepted ID)`, `(returned ID)`, `(invalidated ID)`, `(candidate ID)`, `(missing ID)`, `(invalid ID)`, `(valid ID)`
unfoldable pub named : List ℕ → ℕ → List ℕ
named head x = closed (head ++ id_text x)

-- an id behind a space
abbrev pub spaced : ℕ → List ℕ
spaced x = 32 ∷ id_text x

-- `(ids ID..)`, `(removed ID..)`
unfoldable pub listed : List ℕ → List ℕ → List ℕ
listed head xs = closed (head ++ flat spaced xs)

-- ids parted by one space
unfoldable pub parted : List ℕ → List ℕ
parted [] = []
parted (x ∷ xs) = id_text x ++ flat spaced xs

-- `(replaced `
abbrev pub w_replaced : List ℕ
w_replaced = 40 ∷ 114 ∷ 101 ∷ 112 ∷ 108 ∷ 97 ∷ 99 ∷ 101 ∷ 100 ∷ 32 ∷ []

-- `(replaced ID (ID..))`
unfoldable pub replaced_text : ℕ → List ℕ → List ℕ
replaced_text x xs = (w_replaced ++ id_text x) ++ ((32 ∷ 40 ∷ []) ++ (parted xs ++ (41 ∷ 41 ∷ [])))

-- two numbers, each behind a space, and the bracket
unfoldable pub weights : ℕ → ℕ → List ℕ
weights w b = closed ((32 ∷ decimal_text w) ++ (32 ∷ decimal_text b))

-- ` (ID WEIGHT BASE)`
unfoldable pub row_text : Row → List ℕ
row_text r = (32 ∷ 40 ∷ id_text r.id) ++ weights r.weight r.base

-- `(pooled`
abbrev pub w_pooled : List ℕ
w_pooled = 40 ∷ 112 ∷ 111 ∷ 111 ∷ 108 ∷ 101 ∷ 100 ∷ []

-- `(pooled (ID WEIGHT BASE)..)`
unfoldable pub pooled_text : List Row → List ℕ
pooled_text rs = closed (w_pooled ++ flat row_text rs)

-- `(spender `
abbrev pub w_spender : List ℕ
w_spender = 40 ∷ 115 ∷ 112 ∷ 101 ∷ 110 ∷ 100 ∷ 101 ∷ 114 ∷ 32 ∷ []

abbrev pub row_of : ℕ → ℕ → ℕ → Row
row_of x w b = record { id = x; weight = w; base = b }

-- `(spender ID WEIGHT BASE)`
unfoldable pub spender_text : Row → List ℕ
spender_text r = (w_spender ++ id_text r.id) ++ weights r.weight r.base

-- ---- pairs of numbers, in two words each

pub record Pair : Type 0 where
  pub one : ℕ
  pub two : ℕ

unfoldable pub pair_dec : List ℕ → Pair
pair_dec b = record { one = get_or b 0 0; two = get_or b 1 0 }

unfoldable pub pair_at : List ℕ → ℕ → Pair
pair_at l i = rec_at 2 pair_dec l i

unfoldable pub pairs_of : List ℕ → ℕ → List Pair
pairs_of l n = recs 2 pair_dec l n

pub pairs : Table pairs_of pair_at
unfolding pairs_of pair_at
pairs = record { len = length-recs 2 pair_dec; get = get_or-recs 2 pair_dec; first = take-recs 2 pair_dec }

-- ` (COUNT TOTAL)`
unfoldable pub pair_text : Pair → List ℕ
pair_text p = closed ((32 ∷ 40 ∷ decimal_text p.one) ++ (32 ∷ decimal_text p.two))

-- ` (PEER SUM)`
abbrev pub peer_text : PeerRecord → List ℕ
peer_text p = pair_text (record { one = p.peer; two = p.cost })

-- `(charges `
abbrev pub w_charges : List ℕ
w_charges = 40 ∷ 99 ∷ 104 ∷ 97 ∷ 114 ∷ 103 ∷ 101 ∷ 115 ∷ 32 ∷ []

-- `(charges TOTAL (PEER SUM)..)`
unfoldable pub charges_text : ℕ → List PeerRecord → List ℕ
charges_text total ps = closed ((w_charges ++ decimal_text total) ++ flat peer_text ps)

-- `(bins`
abbrev pub w_bins : List ℕ
w_bins = 40 ∷ 98 ∷ 105 ∷ 110 ∷ 115 ∷ []

-- `(bins (COUNT TOTAL)..)`
unfoldable pub bins_text : List Pair → List ℕ
bins_text ps = closed (w_bins ++ flat pair_text ps)

-- ---- on the edges

-- `(refused 29)`, `(accepted a1)`, `(ids)`
plain-edges : (numbered (40 ∷ 114 ∷ 101 ∷ 102 ∷ 117 ∷ 115 ∷ 101 ∷ 100 ∷ 32 ∷ []) 29 ≡ 40 ∷ 114 ∷ 101 ∷ 102 ∷ 117 ∷ 115 ∷ 101 ∷ 100 ∷ 32 ∷ 50 ∷ 57 ∷ 41 ∷ []) × (named (40 ∷ 97 ∷ 99 ∷ 99 ∷ 101 ∷ 112 ∷ 116 ∷ 101 ∷ 100 ∷ 32 ∷ []) 161 ≡ 40 ∷ 97 ∷ 99 ∷ 99 ∷ 101 ∷ 112 ∷ 116 ∷ 101 ∷ 100 ∷ 32 ∷ 97 ∷ 49 ∷ 41 ∷ []) × (listed (40 ∷ 105 ∷ 100 ∷ 115 ∷ []) [] ≡ 40 ∷ 105 ∷ 100 ∷ 115 ∷ 41 ∷ [])
unfolding numbered listed named numeral digit_byte
plain-edges = (refl, refl, refl)

-- document 01's own example, `(pooled (a1 5000 2000))`; none, `(pooled)`; `(spender a5 4096 4096)`
row-edges : (pooled_text (row_of 161 5000 2000 ∷ []) ≡ 40 ∷ 112 ∷ 111 ∷ 111 ∷ 108 ∷ 101 ∷ 100 ∷ 32 ∷ 40 ∷ 97 ∷ 49 ∷ 32 ∷ 53 ∷ 48 ∷ 48 ∷ 48 ∷ 32 ∷ 50 ∷ 48 ∷ 48 ∷ 48 ∷ 41 ∷ 41 ∷ []) × (pooled_text [] ≡ 40 ∷ 112 ∷ 111 ∷ 111 ∷ 108 ∷ 101 ∷ 100 ∷ 41 ∷ []) × (spender_text (row_of 165 4096 4096) ≡ 40 ∷ 115 ∷ 112 ∷ 101 ∷ 110 ∷ 100 ∷ 101 ∷ 114 ∷ 32 ∷ 97 ∷ 53 ∷ 32 ∷ 52 ∷ 48 ∷ 57 ∷ 54 ∷ 32 ∷ 52 ∷ 48 ∷ 57 ∷ 54 ∷ 41 ∷ [])
unfolding pooled_text spender_text row_text weights numeral digit_byte
row-edges = (refl, refl, refl)

-- `(replaced a3 (a2 a1))`; with no ids `(replaced a3 ())`; `(removed a4 a1)`
id-edges : (replaced_text 163 (162 ∷ 161 ∷ []) ≡ 40 ∷ 114 ∷ 101 ∷ 112 ∷ 108 ∷ 97 ∷ 99 ∷ 101 ∷ 100 ∷ 32 ∷ 97 ∷ 51 ∷ 32 ∷ 40 ∷ 97 ∷ 50 ∷ 32 ∷ 97 ∷ 49 ∷ 41 ∷ 41 ∷ []) × (replaced_text 163 [] ≡ 40 ∷ 114 ∷ 101 ∷ 112 ∷ 108 ∷ 97 ∷ 99 ∷ 101 ∷ 100 ∷ 32 ∷ 97 ∷ 51 ∷ 32 ∷ 40 ∷ 41 ∷ 41 ∷ []) × (listed (40 ∷ 114 ∷ 101 ∷ 109 ∷ 111 ∷ 118 ∷ 101 ∷ 100 ∷ []) (164 ∷ 161 ∷ []) ≡ 40 ∷ 114 ∷ 101 ∷ 109 ∷ 111 ∷ 118 ∷ 101 ∷ 100 ∷ 32 ∷ 97 ∷ 52 ∷ 32 ∷ 97 ∷ 49 ∷ 41 ∷ [])
unfolding replaced_text parted listed numeral digit_byte
id-edges = (refl, refl, refl)

-- `(charges 0)`, `(charges 12 (7 12))`, `(bins (0 0) (1 4096))`
pair-edges : (charges_text 0 [] ≡ 40 ∷ 99 ∷ 104 ∷ 97 ∷ 114 ∷ 103 ∷ 101 ∷ 115 ∷ 32 ∷ 48 ∷ 41 ∷ []) × (charges_text 12 (record { peer = 7; cost = 12 } ∷ []) ≡ 40 ∷ 99 ∷ 104 ∷ 97 ∷ 114 ∷ 103 ∷ 101 ∷ 115 ∷ 32 ∷ 49 ∷ 50 ∷ 32 ∷ 40 ∷ 55 ∷ 32 ∷ 49 ∷ 50 ∷ 41 ∷ 41 ∷ []) × (bins_text (record { one = 0; two = 0 } ∷ record { one = 1; two = 4096 } ∷ []) ≡ 40 ∷ 98 ∷ 105 ∷ 110 ∷ 115 ∷ 32 ∷ 40 ∷ 48 ∷ 32 ∷ 48 ∷ 41 ∷ 32 ∷ 40 ∷ 49 ∷ 32 ∷ 52 ∷ 48 ∷ 57 ∷ 54 ∷ 41 ∷ 41 ∷ [])
unfolding charges_text bins_text pair_text numeral digit_byte
pair-edges = (refl, refl, refl)
