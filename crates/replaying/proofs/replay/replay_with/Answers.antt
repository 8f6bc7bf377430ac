-- `replaying::replay::replay_with` meets its contract.
use Prim.Native.Nat.{ℕ}
use mathlib.Core.Path.{◌≡◌, ◌∙◌}
use mathlib.Core.List.{List}
use Rattle.rules.specs.Book.{book}
use Rattle.bar.specs.Bar.{stood, walked, different, missing}
use Rattle.replaying.specs.Answers.{told}
use Rattle.flags.proofs.Flagging.{many_different, first_missing}
use Rattle.replaying.proofs.replay.replay_with.Goals as goal

told_is : (counts s pairs : List ℕ) {w d m : ℕ} → w ≡ walked counts s pairs → d ≡ different (stood s pairs) (book counts) → m ≡ missing (stood s pairs) (book counts) → (w, d, m) ≡ told counts s pairs
unfolding told
told_is counts s pairs e f g = rw (e, f, g)

pub returns : goal.returns
returns c =
    let b = c.args in
    let e = c.exchange_all-walked.ensures in
    let l = stood b.strip.now b.pairs.now in
    let d = c.how_many-different.ensures ∙ many_different (book b.stock.now) l _ e.2 in
    let m = c.first_clear-missing.ensures ∙ first_missing (book b.stock.now) l _ e.2 in
    (told_is b.stock.now b.strip.now b.pairs.now e.0 d m, e.1)
