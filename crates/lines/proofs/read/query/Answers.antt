-- `read::query` meets its contract: the first word decides.
use Rattle.std.proofs.Common.{sym, ◌∙◌}
use Rattle.lines.specs.Forms as F
use Rattle.lines.specs.FormLaws as L
use Rattle.lines.proofs.read.query.Goals as goal

pub returns-then-same_word : goal.returns-then-same_word
unfolding F.FormAt F.query_of
returns-then-same_word c = λ d t s h. L.first_of _ _ _ _ (sym c.same_word.ensures ∙ c.if-same_word.true) (c.plain.ensures d t s h)

pub returns-then-same_word-2 : goal.returns-then-same_word-2
unfolding F.FormAt F.query_of
returns-then-same_word-2 c = λ d t s h. L.next_of _ _ _ _ (sym c.same_word.ensures ∙ c.if-same_word.false) (L.first_of _ _ _ _ (sym c.same_word-2.ensures ∙ c.if-same_word-2.true) (c.top.ensures d t s h))

pub returns-then-same_word-3 : goal.returns-then-same_word-3
unfolding F.FormAt F.query_of
returns-then-same_word-3 c = λ d t s h. L.next_of _ _ _ _ (sym c.same_word.ensures ∙ c.if-same_word.false) (L.next_of _ _ _ _ (sym c.same_word-2.ensures ∙ c.if-same_word-2.false) (L.first_of _ _ _ _ (sym c.same_word-3.ensures ∙ c.if-same_word-3.true) (c.plain-then-same_word-3.ensures d t s h)))

pub returns-then-same_word-4 : goal.returns-then-same_word-4
unfolding F.FormAt F.query_of
returns-then-same_word-4 c = λ d t s h. L.next_of _ _ _ _ (sym c.same_word.ensures ∙ c.if-same_word.false) (L.next_of _ _ _ _ (sym c.same_word-2.ensures ∙ c.if-same_word-2.false) (L.next_of _ _ _ _ (sym c.same_word-3.ensures ∙ c.if-same_word-3.false) (L.first_of _ _ _ _ (sym c.same_word-4.ensures ∙ c.if-same_word-4.true) (c.contains.ensures d t s h))))

pub returns-then-same_word-5 : goal.returns-then-same_word-5
unfolding F.FormAt F.query_of
returns-then-same_word-5 c = λ d t s h. L.next_of _ _ _ _ (sym c.same_word.ensures ∙ c.if-same_word.false) (L.next_of _ _ _ _ (sym c.same_word-2.ensures ∙ c.if-same_word-2.false) (L.next_of _ _ _ _ (sym c.same_word-3.ensures ∙ c.if-same_word-3.false) (L.next_of _ _ _ _ (sym c.same_word-4.ensures ∙ c.if-same_word-4.false) (L.first_of _ _ _ _ (sym c.same_word-5.ensures ∙ c.if-same_word-5.true) (c.spending.ensures d t s h)))))

pub returns : goal.returns
unfolding F.FormAt F.query_of
returns c = λ d t s h. L.next_of _ _ _ _ (sym c.same_word.ensures ∙ c.if-same_word.false) (L.next_of _ _ _ _ (sym c.same_word-2.ensures ∙ c.if-same_word-2.false) (L.next_of _ _ _ _ (sym c.same_word-3.ensures ∙ c.if-same_word-3.false) (L.next_of _ _ _ _ (sym c.same_word-4.ensures ∙ c.if-same_word-4.false) (L.next_of _ _ _ _ (sym c.same_word-5.ensures ∙ c.if-same_word-5.false) (c.measure.ensures d t s h)))))
