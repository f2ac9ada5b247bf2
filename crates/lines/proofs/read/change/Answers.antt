-- `read::change` meets its contract: the first word decides.
use Rattle.std.proofs.Common.{sym, ◌∙◌}
use Rattle.lines.specs.Forms as F
use Rattle.lines.specs.FormLaws as L
use Rattle.lines.proofs.read.change.Goals as goal

pub returns-then-same_word : goal.returns-then-same_word
unfolding F.FormAt F.change_of
returns-then-same_word c = λ d t s h. L.first_of _ _ _ _ (sym c.same_word.ensures ∙ c.if-same_word.true) (c.pool.ensures d t s h)

pub returns-then-same_word-2 : goal.returns-then-same_word-2
unfolding F.FormAt F.change_of
returns-then-same_word-2 c = λ d t s h. L.next_of _ _ _ _ (sym c.same_word.ensures ∙ c.if-same_word.false) (L.first_of _ _ _ _ (sym c.same_word-2.ensures ∙ c.if-same_word-2.true) (c.invalidate.ensures d t s h))

pub returns-then-same_word-3 : goal.returns-then-same_word-3
unfolding F.FormAt F.change_of
returns-then-same_word-3 c = λ d t s h. L.next_of _ _ _ _ (sym c.same_word.ensures ∙ c.if-same_word.false) (L.next_of _ _ _ _ (sym c.same_word-2.ensures ∙ c.if-same_word-2.false) (L.first_of _ _ _ _ (sym c.same_word-3.ensures ∙ c.if-same_word-3.true) (c.open_pass.ensures d t s h)))

pub returns-then-same_word-4 : goal.returns-then-same_word-4
unfolding F.FormAt F.change_of
returns-then-same_word-4 c = λ d t s h. L.next_of _ _ _ _ (sym c.same_word.ensures ∙ c.if-same_word.false) (L.next_of _ _ _ _ (sym c.same_word-2.ensures ∙ c.if-same_word-2.false) (L.next_of _ _ _ _ (sym c.same_word-3.ensures ∙ c.if-same_word-3.false) (L.first_of _ _ _ _ (sym c.same_word-4.ensures ∙ c.if-same_word-4.true) (c.plain.ensures d t s h))))

pub returns : goal.returns
unfolding F.FormAt F.change_of
returns c = λ d t s h. L.next_of _ _ _ _ (sym c.same_word.ensures ∙ c.if-same_word.false) (L.next_of _ _ _ _ (sym c.same_word-2.ensures ∙ c.if-same_word-2.false) (L.next_of _ _ _ _ (sym c.same_word-3.ensures ∙ c.if-same_word-3.false) (L.next_of _ _ _ _ (sym c.same_word-4.ensures ∙ c.if-same_word-4.false) (c.query.ensures d t s h))))
