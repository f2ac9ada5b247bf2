-- A line of at most 4,096 bytes has no list of more than 2,048 words and lists, at any depth, and a record has at most 7 words: slices of 14,336 words
-- have room for every list of every line, a block's boxes too, and what a line is read as does not depend on them (`form-room`).
use Prim.Native.Nat.{ℕ, suc, ◌+◌, ◌*◌, ◌<◌, ◌≤◌}
use Rattle.std.specs.Prelude.{◌≡◌, Bool, List, [], ◌∷◌, ◌++◌, length}
use Rattle.std.proofs.Math.Path.{refl, ap, ap₂}
use Rattle.std.proofs.Common.{sym, ◌∙◌, arith, mul-le-mul, length-append, le-leb}
use Rattle.std.proofs.Math.Bool.{true, false}
use Rattle.std.proofs.lemmas.List.{length-replicate}
use Rattle.words.specs.Lists.{pick}
use Rattle.forms.specs.Text.{Members, none, word, sub, Spells, Line, Gap, spaces}
use Rattle.lines.specs.declared.items.Records.{Records}
use Rattle.lines.specs.declared.items.Records.TheVariants.{Boxes, Flags, Inputs, Heights, Outputs}
use Rattle.lines.specs.declared.read.Form.{Form}
use Rattle.lines.specs.declared.read.Form.TheVariants.{Tx, Return, Block, Answer, Rebroadcast}
use Rattle.lines.specs.Fields.{Rest, gone, here, word_of, past_word, list_of, past_list, Kind, value, past, number64, number32, ids, optional, same, judged, past_verdict, w_none}
use Rattle.lines.specs.Forms.{whole, tx_of, return_of, block_of, answer_of, rebroadcast_of, change_of, worded_of, form_of, w_local, w_tx, w_return, w_block, w_answer, w_rebroadcast}
use Rattle.lines.specs.Items.{Item, item_of, boxes, flags, inputs, heights, outputs, words_in, all_in, fits, count_of, past_items, count, count_in}
use Rattle.lines.specs.ItemLaws.{words-in-length}
use Rattle.lines.specs.Blocks.{box_list, box_words, transactions, inputs_of, inputs_in, fits_block, txs_count, inputs_count, past_block}

-- how many words and lists stand in a list, at any depth
unfoldable pub size : Members → ℕ
size none = 0
size (word w n) = suc (size n)
size (sub i n) = suc (size i + size n)

unfoldable pub size_in : Rest → ℕ
size_in gone = 0
size_in (here m) = size m

-- the lists among the members have at most b / 2 words and lists each
unfoldable pub Small : ℕ → Rest → Type 0
Small b gone = Unit {0}
Small b (here none) = Unit {0}
Small b (here (word w n)) = Small b (here n)
Small b (here (sub i n)) = (2 * size i ≤ b) × Small b (here n)

-- ---- from the spelling

spaced : (k : ℕ) (s : List ℕ) → length (spaces k ++ s) ≡ k + length s
spaced k s = length-append (spaces k) s ∙ ap (λ (n : ℕ). n + length s) (length-replicate k 32)

gap-pos : (k : ℕ) → Gap false k → 0 < k
unfolding Gap
gap-pos k h = h

-- each member but the first has a space before it, and the bracket is behind the last
unfoldable behind : Bool → ℕ
behind true = 0
behind false = 1

size-le : (d : ℕ) (g : Bool) (m : Members) (s : List ℕ) → Spells d g m s → 2 * size m + behind g ≤ length s
unfolding Spells size behind
size-le d true none s p = omega (arith, ap length p.1, spaced p.0 (41 ∷ []))
size-le d false none s p = omega (arith, ap length p.1, spaced p.0 (41 ∷ []))
size-le d true (word w n) s p = omega (arith, ap length p.2, spaced p.0 (w ++ p.1), length-append w p.1, p.4.0, size-le d false n p.1 p.5)
size-le d false (word w n) s p = omega (arith, ap length p.2, spaced p.0 (w ++ p.1), length-append w p.1, gap-pos p.0 p.3, p.4.0, size-le d false n p.1 p.5)
size-le d true (sub i n) s p =
    omega (arith, ap length p.4, spaced p.0 (40 ∷ (p.2 ++ p.3)), length-append p.2 p.3, size-le p.1 true i p.2 p.7, size-le d false n p.3 p.8)
size-le d false (sub i n) s p =
    omega (arith, ap length p.4, spaced p.0 (40 ∷ (p.2 ++ p.3)), length-append p.2 p.3, gap-pos p.0 p.5, size-le p.1 true i p.2 p.7, size-le d false n p.3 p.8)

small : (b d : ℕ) (g : Bool) (m : Members) (s : List ℕ) → length s ≤ b → Spells d g m s → Small b (here m)
unfolding Small Spells behind
small b d g none s h p = tt
small b d g (word w n) s h p = small b d false n p.1 (omega (arith, ap length p.2, spaced p.0 (w ++ p.1), length-append w p.1)) p.5
small b d g (sub i n) s h p =
    let len = ap length p.4 in
    let sp = spaced p.0 (40 ∷ (p.2 ++ p.3)) in
    let two = length-append p.2 p.3 in
    (omega (arith, size-le p.1 true i p.2 p.7), small b d false n p.3 (omega arith) p.8)

pub small_line : (m : Members) (l : List ℕ) → Line m l → Small 4096 (here m)
unfolding Line
small_line m l p =
    small 4096 7 true m p.2 (omega (arith, ap length p.3, spaced p.0 (40 ∷ (p.2 ++ spaces p.1)), length-append p.2 (spaces p.1), p.4)) p.5

-- ---- what is left of the members

module _ (b : ℕ) where
  small_word : (s : Rest) → Small b s → Small b (past_word s)
  unfolding Small past_word
  small_word gone h = tt
  small_word (here none) h = tt
  small_word (here (word w n)) h = h
  small_word (here (sub i n)) h = tt

  small-list : (s : Rest) → Small b s → Small b (past_list s) × (2 * size_in (list_of s) ≤ b)
  unfolding Small past_list list_of size_in
  small-list gone h = (tt, omega arith)
  small-list (here none) h = (tt, omega arith)
  small-list (here (word w n)) h = (tt, omega arith)
  small-list (here (sub i n)) h = (h.1, h.0)

  small-pick : (c : Bool) (s : Rest) → Small b s → Small b (pick c s gone)
  unfolding Small
  small-pick true s h = h
  small-pick false s h = tt

  pub small-past : {A : Type 0} (k : Kind A) (s : Rest) → Small b s → Small b (past k s)
  unfolding past
  small-past k s h = small-pick (k.ok (word_of s)) (past_word s) (small_word s h)

  pub small-items : (it : Item) (a : ℕ) (s : Rest) → Small b s → Small b (past_items it a s)
  unfolding past_items
  small-items it a s h = small-pick (fits it a (list_of s)) (past_list s) (small-list s h).0

-- ---- the words of its records

few : (m : Members) → count m ≤ size m
unfolding count size
few none = omega arith
few (word w n) = omega (arith, few n)
few (sub i n) = omega (arith, few n)

few-in : (s : Rest) → count_in s ≤ size_in s
unfolding count_in size_in
few-in gone = omega arith
few-in (here m) = few m

narrow : (k : Records) → (item_of k).width ≤ 7
unfolding item_of boxes flags inputs heights outputs
narrow Boxes = omega arith
narrow Flags = omega arith
narrow Inputs = omega arith
narrow Heights = omega arith
narrow Outputs = omega arith

module _ (it : Item) (w : it.width ≤ 7) (s : Rest) (n : 2 * size_in s ≤ 4096) where
  words-le : length (words_in it s) ≤ 14336
  words-le =
      let c : count_in s ≤ 2048 = omega (arith, few-in s) in
      let q : count_in s * it.width ≤ 2048 * 7 = mul-le-mul c w in
      omega (arith, words-in-length it s)

  pub fits_all : (a : ℕ) → 14336 ≤ a → fits it a s ≡ all_in it s
  unfolding fits
  fits_all a h = ap (λ (z : Bool). pick (all_in it s) z false) (le-leb (length (words_in it s)) a (omega (arith, words-le))) ∙ itself (all_in it s)
    where
      itself : (t : Bool) → pick t true false ≡ t
      itself true = refl
      itself false = refl

-- the boxes of all transactions are among the words of a block's list
list-le : (s : Rest) → count_in (list_of s) ≤ size_in s
unfolding list_of count_in size_in size
list-le gone = omega arith
list-le (here none) = omega arith
list-le (here (word w n)) = omega arith
list-le (here (sub i n)) = omega (arith, few i)

past-le : (s : Rest) → size_in (past ids s) ≤ size_in s
unfolding past past_word size_in size
past-le s = go (ids.ok (word_of s)) s
  where
    go : (c : Bool) (s : Rest) → size_in (pick c (past_word s) gone) ≤ size_in s
    go false s = omega arith
    go true gone = omega arith
    go true (here none) = omega arith
    go true (here (word w n)) = omega arith
    go true (here (sub i n)) = omega arith

boxes-le : (i : Rest) → length (box_words i) ≤ 4 * size_in i
unfolding box_words box_list boxes
boxes-le i = omega (arith, words-in-length boxes (list_of (past ids i)), list-le (past ids i), past-le i)

inputs-le : (m : Members) → length (inputs_of m) ≤ 4 * size m
unfolding inputs_of size size_in
inputs-le none = omega arith
inputs-le (word w n) = omega (arith, inputs-le n)
inputs-le (sub i n) = omega (arith, length-append (box_words (here i)) (inputs_of n), boxes-le (here i), inputs-le n)

inputs-in-le : (s : Rest) → length (inputs_in s) ≤ 4 * size_in s
unfolding inputs_in size_in
inputs-in-le gone = omega arith
inputs-in-le (here m) = inputs-le m

narrow-txs : transactions.width ≤ 7
unfolding transactions
narrow-txs = omega arith

pub fits-block : (a b : ℕ) (s : Rest) → 14336 ≤ a → 14336 ≤ b → 2 * size_in s ≤ 4096 → fits_block a b s ≡ all_in transactions s
unfolding fits_block
fits-block a b s ha hb n =
    ap₂ (λ (x y : Bool). pick x y false) (fits_all transactions narrow-txs s n a ha) (le-leb (length (inputs_in s)) b (omega (arith, inputs-in-le s))) ∙ itself (all_in transactions s)
  where
    itself : (t : Bool) → pick t true false ≡ t
    itself true = refl
    itself false = refl

-- ---- THEOREM: what a line is read as

module _ (k : Records) (a : ℕ) (h : 14336 ≤ a) (s : Rest) (sm : Small 4096 s) where
  fits-room : fits (item_of k) a (list_of s) ≡ fits (item_of k) 14336 (list_of s)
  fits-room = let n = (small-list 4096 s sm).1 in fits_all (item_of k) (narrow k) (list_of s) n a h ∙ sym (fits_all (item_of k) (narrow k) (list_of s) n 14336 (omega arith))

  past_room : past_items (item_of k) a s ≡ past_items (item_of k) 14336 s
  unfolding past_items
  past_room = ap (λ (z : Bool). pick z (past_list s) gone) fits-room

  count_room : count_of (item_of k) a (list_of s) ≡ count_of (item_of k) 14336 (list_of s)
  unfolding count_of
  count_room = ap (λ (z : Bool). pick z (length (words_in (item_of k) (list_of s))) 0) fits-room

module _ (a b : ℕ) (ha : 14336 ≤ a) (hb : 14336 ≤ b) (s : Rest) (sm : Small 4096 s) where
  block-fits : fits_block a b (list_of s) ≡ fits_block 14336 14336 (list_of s)
  block-fits = let n = (small-list 4096 s sm).1 in fits-block a b (list_of s) ha hb n ∙ sym (fits-block 14336 14336 (list_of s) (omega arith) (omega arith) n)

module _ (a b : ℕ) (ha : 14336 ≤ a) (hb : 14336 ≤ b) (s : Rest) (sm : Small 4096 s) where
  tx-room : tx_of a b s ≡ tx_of 14336 14336 s
  unfolding tx_of
  tx-room =
      let m1 = small-past 4096 number64 s sm in
      let m2 = small-past 4096 ids _ m1 in
      let m3 = small-past 4096 (optional w_local) _ m2 in
      let m4 = small-past 4096 number64 _ m3 in
      let m5 = small-past 4096 number32 _ m4 in
      let m6 = small-items 4096 (item_of Inputs) 14336 _ m5 in
      let s1 = past number64 s in
      let s2 = past ids s1 in
      let s3 = past (optional w_local) s2 in
      let s4 = past number64 s3 in
      let s5 = past number32 s4 in
      let body : ℕ → ℕ → Rest → Form = λ n m s7. whole (past_verdict s7) (Tx (record { time = value number64 s; id = value ids s1; peer = value (optional w_local) s2; size = value number64 s3; preheader = value number32 s4; inputs = n; outputs = m; verdict = judged (list_of s7) })) in
      ap₂ (λ (n : ℕ) (s6 : Rest). body n (count_of (item_of Outputs) b (list_of s6)) (past_items (item_of Outputs) b s6)) (count_room Inputs a ha s5 m5) (past_room Inputs a ha s5 m5)
      ∙ ap₂ (λ (m : ℕ) (s7 : Rest). body (count_of (item_of Inputs) 14336 (list_of s5)) m s7) (count_room Outputs b hb _ m6) (past_room Outputs b hb _ m6)

  return-room : return_of a b s ≡ return_of 14336 14336 s
  unfolding return_of
  return-room =
      let m1 = small-past 4096 ids s sm in
      let m2 = small-past 4096 number64 _ m1 in
      let m3 = small-past 4096 number64 _ m2 in
      let m4 = small-past 4096 number32 _ m3 in
      let m5 = small-past 4096 (optional w_none) _ m4 in
      let m6 = small-past 4096 number64 _ m5 in
      let m7 = small-past 4096 number64 _ m6 in
      let m8 = small-past 4096 (optional w_local) _ m7 in
      let m9 = small-items 4096 (item_of Boxes) 14336 _ m8 in
      let s1 = past ids s in
      let s2 = past number64 s1 in
      let s3 = past number64 s2 in
      let s4 = past number32 s3 in
      let s5 = past (optional w_none) s4 in
      let s6 = past number64 s5 in
      let s7 = past number64 s6 in
      let s8 = past (optional w_local) s7 in
      let body : ℕ → ℕ → Rest → Form = λ n m z. whole z (Return (record { id = value ids s; fee = value number64 s1; size = value number64 s2; cost = value number32 s3; measured = value (optional w_none) s4; created = value number64 s5; checked = value number64 s6; peer = value (optional w_local) s7; inputs = n; outputs = m })) in
      ap₂ (λ (n : ℕ) (s9 : Rest). body n (count_of (item_of Heights) b (list_of s9)) (past_items (item_of Heights) b s9)) (count_room Boxes a ha s8 m8) (past_room Boxes a ha s8 m8)
      ∙ ap₂ (λ (m : ℕ) (z : Rest). body (count_of (item_of Boxes) 14336 (list_of s8)) m z) (count_room Heights b hb _ m9) (past_room Heights b hb _ m9)

  answer-room : answer_of a s ≡ answer_of 14336 s
  unfolding answer_of
  answer-room = ap₂ (λ (n : ℕ) (z : Rest). whole (past_verdict z) (Answer n (judged (list_of z)))) (count_room Flags a ha s sm) (past_room Flags a ha s sm)

  rebroadcast-room : rebroadcast_of a s ≡ rebroadcast_of 14336 s
  unfolding rebroadcast_of
  rebroadcast-room = ap₂ (λ (n : ℕ) (z : Rest). whole z (Rebroadcast n)) (count_room Boxes a ha s sm) (past_room Boxes a ha s sm)

  block_room : block_of a b s ≡ block_of 14336 14336 s
  unfolding block_of txs_count inputs_count past_block
  block_room =
      let s1 = past number64 s in
      let e = block-fits a b ha hb s1 (small-past 4096 number64 s sm) in
      ap (λ (c : Bool). whole (pick c (past_list s1) gone) (Block (record { time = value number64 s; transactions = pick c (length (words_in transactions (list_of s1))) 0; inputs = pick c (length (inputs_in (list_of s1))) 0 }))) e

  worded-room : (w : List ℕ) → worded_of w s a b ≡ worded_of w s 14336 14336
  unfolding worded_of
  worded-room w = λ i. pick (same w w_tx) (tx-room i) (pick (same w w_return) (return-room i) (pick (same w w_block) (block_room i) (pick (same w w_answer) (answer-room i) (pick (same w w_rebroadcast) (rebroadcast-room i) (change_of w s)))))

pub form-room : (m : Members) (l : List ℕ) (a b : ℕ) → Line m l → 14336 ≤ a → 14336 ≤ b → form_of a b m ≡ form_of 14336 14336 m
unfolding form_of
form-room m l a b p ha hb = worded-room a b ha hb (past_word (here m)) (small_word 4096 (here m) (small_line m l p)) (word_of (here m))
