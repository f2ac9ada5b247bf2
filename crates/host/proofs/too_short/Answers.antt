-- `too_short` meets its contract, test by test. Assumes nothing.
use Rattle.host.specs.Starts.{scant-settings, scant-state, scant-rest}
use Rattle.host.proofs.too_short.Goals as goal

pub returns-then-settings-lt-SETTINGS_WORDS : goal.returns-then-settings-lt-SETTINGS_WORDS
returns-then-settings-lt-SETTINGS_WORDS c = scant-settings _ _ _ _ c.if-settings-lt-SETTINGS_WORDS.true

pub returns-then-state-lt-STATE_WORDS : goal.returns-then-state-lt-STATE_WORDS
returns-then-state-lt-STATE_WORDS c = scant-state _ _ _ _ c.if-settings-lt-SETTINGS_WORDS.false c.if-state-lt-STATE_WORDS.true

pub returns : goal.returns
returns c = scant-rest _ _ _ _ c.if-settings-lt-SETTINGS_WORDS.false c.if-state-lt-STATE_WORDS.false c.lacks.ensures
