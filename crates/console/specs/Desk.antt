-- The definitions of a line over the struct that the code hands on: its words and what it holds.
use Rattle.std.specs.Prelude.{ℕ, ◌/◌, ◌≡◌, true, false, List, Option, Some, None, Result, length, take}
use Rattle.std.proofs.Common.{refl, sym, ap, ◌∙◌}
use Rattle.pool_types.specs.declared.Refusal.{Refusal}
use Rattle.entries.specs.Layout.{entries_room}
use Rattle.boxes.specs.Layout.{boxes_room}
use Rattle.expiring_cache.specs.Layout.{cache_room}
use Rattle.mempool.specs.Start.{Sizes, sizes}
use Rattle.pool_types.specs.declared.Mempool.{Mempool}
use Rattle.console.specs.Kept.{Kept}
use Rattle.console.specs.Console.{Line, nothing, same, started_line, altered, asked, line_of, w_no_pool}
use Rattle.console.specs.Calls.{lacks_pool, words_of}
use Rattle.console.specs.Laws.{line-called, line-lacking, called-altered, called-asked}
use Rattle.console.specs.After.{Holds, After, Told}
use Rattle.console.specs.declared.calls.Call.{Call}
use Rattle.console.specs.declared.calls.Call.TheVariants.{Alter, Ask}
use Rattle.console.specs.declared.calls.Change.{Change}
use Rattle.console.specs.declared.calls.Query.{Query}
use Rattle.console.specs.declared.desk.Desk.{Desk}
use Rattle.console.specs.declared.desk.Held.{Held}
use Rattle.console.specs.declared.desk.Told as desk

-- what is held where a start was accepted
abbrev pub kept : Held → Kept
kept h = record { ready = true; mempool = h.mempool; stats = h.stats; written = h.written }

abbrev pub kept_of : Option Held → Kept
kept_of (Some h) = kept h
kept_of None = nothing

-- .. by a changing call that wrote no id
abbrev pub unwritten : Kept → Kept
unwritten h = record { ready = h.ready; mempool = h.mempool; stats = h.stats; written = 0 }

-- a call's effect, of what is held after it
abbrev pub told : desk.Told → Told
told t = record { kept = kept_of t.held; len = t.len }

abbrev pub HoldsWith : Desk → Held → Type 0
HoldsWith d h = Holds d.entries.now d.boxes.now d.cache.now d.peers.now d.answer.now (kept h)

abbrev pub HoldsIn : Desk → Type 0
HoldsIn d = Holds d.entries.now d.boxes.now d.cache.now d.peers.now d.answer.now (kept_of d.held)

-- what is held then, beside an answer of so many bytes
abbrev pub told_in : Desk → ℕ → Told
told_in d n = record { kept = kept_of d.held; len = n }

abbrev pub AfterIn : Desk → List ℕ → List ℕ → ℕ → Line → Type 0
AfterIn d o₀ o n m = After d.entries.now d.boxes.now d.cache.now d.peers.now d.answer.now o₀ o (told_in d n) m

abbrev pub sizes_in : Desk → Sizes
sizes_in d = sizes (entries_room d.entries.now) (boxes_room d.boxes.now) (cache_room d.cache.now) (length d.peers.now / 2)

abbrev pub started_in : Desk → Result Mempool Refusal → Line
started_in d r = started_line d.entries.now d.boxes.now d.cache.now d.peers.now d.answer.now (kept_of d.held) r

abbrev pub altered_in : Desk → Held → List ℕ → List ℕ → Change → Line
altered_in d h f s g = altered d.entries.now d.boxes.now d.cache.now d.peers.now d.answer.now (kept h) f s g

abbrev pub asked_in : Desk → Held → ℕ → List ℕ → Query → List ℕ
asked_in d h room f q = asked d.entries.now d.boxes.now d.cache.now d.peers.now d.answer.now (kept h) room f q

abbrev pub line_in : Desk → ℕ → ℕ → List ℕ → List ℕ → Call → Line
line_in d n room f s c = line_of d.entries.now d.boxes.now d.cache.now d.peers.now d.answer.now (kept_of d.held) n room f s c

-- the words are those that were lent: by this a caller knows what its own become
abbrev pub SameNames : Desk → Desk → Type 0
SameNames d d' =
    (d'.entries.ghost_name ≡ d.entries.ghost_name) × (d'.boxes.ghost_name ≡ d.boxes.ghost_name) × (d'.cache.ghost_name ≡ d.cache.ghost_name)
    × (d'.peers.ghost_name ≡ d.peers.ghost_name) × (d'.answer.ghost_name ≡ d.answer.ghost_name)

-- .. and there are as many as there were
pub record SameLengths (d d' : Desk) : Type 0 where
  pub names : SameNames d d'
  pub entries : length d'.entries.now ≡ length d.entries.now
  pub boxes : length d'.boxes.now ≡ length d.boxes.now
  pub cache : length d'.cache.now ≡ length d.cache.now
  pub peers : length d'.peers.now ≡ length d.peers.now
  pub answer : length d'.answer.now ≡ length d.answer.now

-- .. and they are as they were
pub record SameWords (d d' : Desk) : Type 0 where
  pub names : SameNames d d'
  pub entries : d'.entries.now ≡ d.entries.now
  pub boxes : d'.boxes.now ≡ d.boxes.now
  pub cache : d'.cache.now ≡ d.cache.now
  pub peers : d'.peers.now ≡ d.peers.now
  pub answer : d'.answer.now ≡ d.answer.now

pub as-long : {d d' : Desk} → SameWords d d' → SameLengths d d'
as-long s = record { names = s.names; entries = ap length s.entries; boxes = ap length s.boxes; cache = ap length s.cache; peers = ap length s.peers; answer = ap length s.answer }

-- ---- a line's call, by whether anything is held

module _ (d : Desk) (n room : ℕ) (f s : List ℕ) (c : Call) where
  abbrev line_with : Kept → Line
  line_with h = line_of d.entries.now d.boxes.now d.cache.now d.peers.now d.answer.now h n room f s c

  abbrev same_with : List ℕ → Kept → Line
  same_with t h = same d.entries.now d.boxes.now d.cache.now d.peers.now d.answer.now h t

  abbrev here : Option Held → Line
  here x = line_with (kept_of x)

  abbrev there : List ℕ → Option Held → Line
  there t x = same_with t (kept_of x)

  pub line-alters : {h : Held} {g : Change} → d.held ≡ Some h → c ≡ Alter g → line_in d n room f s c ≡ altered_in d h (take (words_of g).one f) (take (words_of g).two s) g
  unfolding lacks_pool
  line-alters {h} {g} p q = ap here p ∙ line-called _ _ _ _ _ (kept h) _ _ _ _ c {t = false} (rw q refl) refl ∙ called-altered _ _ _ _ _ (kept h) _ _ _ _ c g q

  pub line-asks : {h : Held} {t : Query} → d.held ≡ Some h → c ≡ Ask t → line_in d n room f s c ≡ there (asked_in d h room f t) d.held
  unfolding lacks_pool
  line-asks {h} {t} p q =
      ap here p ∙ line-called _ _ _ _ _ (kept h) _ _ _ _ c {t = false} (rw q refl) refl ∙ called-asked _ _ _ _ _ (kept h) _ _ _ _ c t q ∙ ap (there (asked_in d h room f t)) (sym p)

  pub alter-lacks : {g : Change} → d.held ≡ None → c ≡ Alter g → line_in d n room f s c ≡ there w_no_pool d.held
  unfolding lacks_pool
  alter-lacks p q = ap here p ∙ line-lacking _ _ _ _ _ nothing _ _ _ _ c {t = true} (rw q refl) refl ∙ ap (there w_no_pool) (sym p)

  pub ask-lacks : {t : Query} → d.held ≡ None → c ≡ Ask t → line_in d n room f s c ≡ there w_no_pool d.held
  unfolding lacks_pool
  ask-lacks p q = ap here p ∙ line-lacking _ _ _ _ _ nothing _ _ _ _ c {t = true} (rw q refl) refl ∙ ap (there w_no_pool) (sym p)
