-- THEOREM `same_bytes`. Document 02: "Two readable lines are the same form with equal members in order exactly if they come out as the same bytes". A line's
-- members are what it is read as: its form, and the words of the form's lists.
use Rattle.std.specs.Prelude.{ℕ, ◌≡◌, List, ◌∷◌}
use Rattle.std.proofs.Math.Path.{sym, ap}
use Rattle.std.proofs.Common.{◌∙◌, subst}
use Rattle.std.proofs.Math.Bool.{true}
use Rattle.forms.specs.Text.{Members, Line}
use Rattle.forms.specs.TextLaws.{line-once}
use Rattle.lines.specs.Forms.{is_read, form_of}
use Rattle.spelling.specs.Spelling.{tidied, text, spelled}
use Rattle.spelling.specs.SqueezeLaws.{line-tidied}
use Rattle.spelling.specs.FormBack.{Out, out_of, read_back}
use Rattle.spelling.specs.Said.{said, spelled-said}

-- what a readable line is read as, by poolrun's reader
abbrev pub as_read : Members → Out
as_read m = out_of 14336 14336 m

module _ (m n : Members) (k l : List ℕ) (p : Line m k) (q : Line n l) (e : is_read (form_of 14336 14336 m) ≡ true) (f : is_read (form_of 14336 14336 n) ≡ true) where
  -- the same form with equal members in order come out as the same bytes
  pub same-form : as_read m ≡ as_read n → spelled m ≡ spelled n
  unfolding spelled
  same-form h = ap (λ (z : Members). 40 ∷ text true z) (spelled-said 14336 14336 m e ∙ ap (λ (o : Out). said o.form o.one o.two) h ∙ sym (spelled-said 14336 14336 n f))

  -- and only they
  pub same_bytes : spelled m ≡ spelled n → as_read m ≡ as_read n
  same_bytes h =
      let t : tidied m ≡ tidied n = line-once (spelled n) (tidied m) (tidied n) (subst (Line (tidied m)) h (line-tidied m k p)) (line-tidied n l q) in
      sym (read_back 14336 14336 m e) ∙ ap as_read t ∙ read_back 14336 14336 n f
