-- Theorems on the sheets of edition 2, over the contracts of the calls as they state them: any answer that one allows, and what it leaves in what was lent.
use Prim.Native.Nat.{ℕ, ◌≤◌}
use mathlib.Core.Path.{◌≡◌, sym, ap, ◌∙◌}
use mathlib.Core.Bool.{true}
use mathlib.Core.List.{List, [], ◌∷◌, ◌++◌}
use native.Mathlib.Omega.{arith}
use borrow.Author.Tests.{le-ltb, ltb-false}
use lib.ListN.{length, take, drop}
use lib.Seq.{take_at}
use contract.Lifetimes.{Lfts}
use borrow.Fn.Kinds.{Dens, ended_of}
use denote.Triple.Clauses.{AtExit}
use Rattle.rules.specs.Stock.{sum, IsStock, IsStrip}
use Rattle.rules.specs.Refusals.{No, fine, first_of, unless}
use Rattle.rules.specs.Outcome.{OneOutcome}
use Rattle.rules.proofs.Refusals.{passed_both, passed_first, passed_fine, unless_refused, unless_passed}
use Rattle.rules.proofs.Checks.{when_passed, passed_head}
use Rattle.walking.specs.Answers.{onward, left}
use Rattle.sheets.specs.declared.Written.{Written}
use Rattle.sheets.specs.Writing.{short_no, as_written}
use Rattle.records.specs.Records.{sheet_stock, sheet_strip}
use Rattle.following.specs.declared.Readout.{Readout}
use Rattle.following.specs.Following.{Followed, as_readout}
use Rattle.reading.specs.Reading.{record_nos, read_nos, read_answer, read_buffer}
use Rattle.reading.proofs.Exactly.{read_roomy, read_stock, read_strip, read_right}
use Rattle.reading.proofs.Theorems.{Reads, read_passes, read_leads}
use Rattle.forms.specs.Forms.{form_of, form_length}
use Rattle.forms.proofs.Lengths.{form_long_lem}
use Rattle.forms.proofs.Theorems as writing
use Rattle.forms.proofs.long.write_long.Kinds as write
use Rattle.forms.proofs.long.write_long.Reads as write_reads
use Rattle.rewriting.specs.Rewriting.{moves_of, form_in, form_long, rewrite_nos, rewrite_answer, rewrite_out}
use Rattle.rewriting.proofs.OneForm.{form_stock, form_strip, form_followed, form_fine, no_shorter}
use Rattle.rewriting.proofs.rewrite.rewrite.Kinds as rewrite
use Rattle.rewriting.proofs.rewrite.rewrite.Reads as rewrites

-- two outcomes that the contract allows for one input have the same answer, and leave the same bytes in the second buffer
pub one_outcome : OneOutcome 2 rewrite.ps rewrite.r (λ κs s. s.1.0.now) rewrites.Post
one_outcome κs a x y s t h k = (h.0 ∙ sym k.0, h.1 ∙ sym k.1)

-- ---- the one form of a stock, a strip and c moves, whoever wrote it

pub record Forms (counts s : List ℕ) (c : ℕ) (sheet : List ℕ) : Type 0 where
  pub stock : IsStock counts
  pub strip : IsStrip counts s
  pub moves : c ≤ left counts s
  pub is : sheet ≡ form_of counts s c

module _ (counts s : List ℕ) (c : ℕ) (sheet : List ℕ) (w : Forms counts s c sheet) where
  forms_long : length sheet ≡ form_length counts c
  forms_long = ap length w.is ∙ form_long_lem counts s w.stock w.strip c w.moves

  pub holds_stock : sheet_stock sheet ≡ counts
  holds_stock = ap sheet_stock w.is ∙ form_stock counts s w.stock w.strip c

  pub holds_strip : sheet_strip sheet ≡ s
  holds_strip = ap sheet_strip w.is ∙ form_strip counts s w.stock w.strip c

  holds_moves : moves_of sheet ≡ c
  holds_moves = ap moves_of w.is ∙ ap (λ (f : Followed). f.moves) (form_followed counts s w.stock w.strip c w.moves)

  reads_fine : first_of (record_nos true sheet) ≡ fine
  reads_fine = ap (λ (l : List ℕ). first_of (record_nos true l)) w.is ∙ form_fine counts s w.stock w.strip c w.moves

  -- the new reader answers c, and shows the strip that many numbers further on
  pub form_is_read : (buffer : List ℕ) (r : Readout) (after : List ℕ) → Reads true sheet buffer r after → 64 ≤ length buffer → (r ≡ as_readout fine c) × (after ≡ onward counts s c ++ drop (sum counts) buffer)
  unfolding read_answer
  form_is_read buffer r after h room =
      let n : first_of (read_nos true sheet buffer) ≡ fine = read_roomy true sheet buffer room ∙ reads_fine in
      let e : r ≡ as_readout fine c = h.0 ∙ rw (n, holds_moves) in
      let m : r.moves ≡ c = ap (λ (r : Readout). r.moves) e in
      (e, rw (m, holds_stock, holds_strip) at (read_leads true sheet buffer r after h (ap (λ (r : Readout). r.refusal.no) e)).1)

  -- rewriting it changes nothing
  pub form_stays : (out : List ℕ) → length sheet ≤ length out → (rewrite_answer sheet out ≡ as_written fine (length sheet)) × (rewrite_out sheet out ≡ sheet ++ drop (length sheet) out)
  unfolding rewrite_answer rewrite_out rewrite_nos first_of
  form_stays out room =
      let l : form_long sheet ≡ length sheet = rw (holds_stock, holds_moves) (sym forms_long) in
      let n : first_of (rewrite_nos sheet out) ≡ fine =
      passed_first (record_nos true sheet) (short_no (form_long sheet) out ∷ []) (ap (λ (r : No). r.0) reads_fine) ∙ rw (l, le-ltb (length out) (length sheet) room)
      in
      let i : form_in sheet ≡ sheet = rw (holds_stock, holds_strip, holds_moves) (sym w.is) in
      (rw (n, l), rw (n, l, i))

-- ---- writing: any answer r, and any sheet left

module _ (κs : Lfts 3) (a : Dens κs write.ps) (r : Written) (s : AtExit (ended_of 3 write.ps write.r) κs) (h : write_reads.Post κs a r s) (e : r.refusal.no ≡ 0) where
  -- the bytes that are written
  abbrev written : List ℕ
  written = take r.length s.1.1.1.0.now

  pub writes_form : Forms a.0.now a.1.0.now a.1.1.0 written
  writes_form =
      let b = writing.accepts κs a r s h e in
      let form = form_of a.0.now a.1.0.now a.1.1.0 in
      record {
        stock = b.0;
        strip = b.1;
        moves = b.3;
        is = ap (take r.length) (writing.written κs a r s h e) ∙ take_at form (drop r.length a.1.1.1.0.now) r.length (sym (writing.length_written κs a r s h e));
      }

  -- no sheet that is read as the same stock, strip and moves is shorter
  pub none_shorter : (sheet buffer : List ℕ) (q : Readout) (after : List ℕ) → Reads true sheet buffer q after → q.refusal.no ≡ 0
      → sheet_stock sheet ≡ a.0.now → sheet_strip sheet ≡ a.1.0.now → q.moves ≡ a.1.1.0 → r.length ≤ length sheet
  none_shorter sheet buffer q after k f stock strip moves =
      let p = read_passes true sheet buffer q after k f in
      let l : form_long sheet ≡ r.length = rw (sym p.2 ∙ moves, stock) (sym (writing.length_is κs a r s h e)) in
      omega (arith, l, no_shorter sheet p.1)

-- ---- rewriting: any answer r for a sheet and a second buffer, and what it leaves in that

module _ (κs : Lfts 2) (a : Dens κs rewrite.ps) (r : Written) (t : AtExit (ended_of 2 rewrite.ps rewrite.r) κs) (h : rewrites.Post κs a r t) where
  abbrev sheet : List ℕ
  sheet = a.0.now

  abbrev out : List ℕ
  out = a.1.0.now

  abbrev after : List ℕ
  after = t.1.0.now

  no_is : r.refusal.no ≡ (first_of (rewrite_nos sheet out)).0
  unfolding rewrite_answer
  no_is = ap (λ (r : Written). r.refusal.no) h.0

  length_is : r.length ≡ unless (first_of (rewrite_nos sheet out)) 0 (form_long sheet)
  unfolding rewrite_answer
  length_is = ap (λ (r : Written). r.length) h.0

  -- refused, the length is 0, and the second buffer stays as it was
  pub refused_stays : (r.refusal.no ≡ 0 → ⊥) → (r.length ≡ 0) × (after ≡ out)
  unfolding rewrite_out
  refused_stays e =
      let k : (first_of (rewrite_nos sheet out)).0 ≡ 0 → ⊥ = λ z. e (no_is ∙ z) in
      (length_is ∙ unless_refused 0 _ _ k, h.1 ∙ unless_refused out _ _ k)

  -- a sheet that is read is rewritten, where the form fits; where the sheet itself fits, it does
  pub right_rewritten : (buffer : List ℕ) (q : Readout) (shown : List ℕ) → Reads true sheet buffer q shown → q.refusal.no ≡ 0 → length sheet ≤ length out → r.refusal.no ≡ 0
  unfolding rewrite_nos first_of
  right_rewritten buffer q shown k f room =
      let p = read_passes true sheet buffer q shown k f in
      no_is ∙ rw (passed_first (record_nos true sheet) (short_no (form_long sheet) out ∷ []) p.1, le-ltb (length out) (form_long sheet) (omega (arith, no_shorter sheet p.1)))

  module _ (e : r.refusal.no ≡ 0) where
    none : ((first_of (record_nos true sheet)).0 ≡ 0) × (form_long sheet ≤ length out)
    unfolding rewrite_nos
    none =
        let p = passed_both (record_nos true sheet) (short_no (form_long sheet) out ∷ []) (sym no_is ∙ e) in
        (p.0, ltb-false _ _ (when_passed 12 0 _ (passed_head _ _ p.1).0))

    pub length_form : r.length ≡ form_long sheet
    length_form = length_is ∙ unless_passed 0 _ _ (sym no_is ∙ e)

    -- the bytes that are written, and those past them as they were
    abbrev rewritten : List ℕ
    rewritten = take r.length after

    after_is : after ≡ form_in sheet ++ drop r.length out
    unfolding rewrite_out
    after_is = h.1 ∙ unless_passed out _ _ (sym no_is ∙ e) ∙ rw length_form

    pub rewrites_form : Forms (sheet_stock sheet) (sheet_strip sheet) (moves_of sheet) rewritten × (after ≡ rewritten ++ drop r.length out)
    rewrites_form =
        let z = none.0 in
        let l = form_long_lem (sheet_stock sheet) (sheet_strip sheet) (read_stock true sheet z) (read_strip true sheet z) (moves_of sheet) (read_right true sheet z).within in
        let is : rewritten ≡ form_in sheet = ap (take r.length) after_is ∙ take_at (form_in sheet) (drop r.length out) r.length (l ∙ sym length_form) in
        (record { stock = read_stock true sheet z; strip = read_strip true sheet z; moves = (read_right true sheet z).within; is = is }, after_is ∙ rw is)

    -- the new reader reads the same of both: stock, strip, moves and final strip
    pub says_the_same : (buffer : List ℕ) (p q : Readout) (shown shown' : List ℕ) → Reads true sheet buffer p shown → Reads true rewritten buffer q shown' → 64 ≤ length buffer
        → (sheet_stock rewritten ≡ sheet_stock sheet) × (sheet_strip rewritten ≡ sheet_strip sheet) × (q ≡ p) × (shown' ≡ shown)
    unfolding read_answer read_buffer
    says_the_same buffer p q shown shown' k m room =
        let w = rewrites_form.0 in
        let z = none.0 in
        let n : first_of (read_nos true sheet buffer) ≡ fine = read_roomy true sheet buffer room ∙ passed_fine _ z in
        let again = form_is_read _ _ _ rewritten w buffer q shown' m room in
        let own : p ≡ as_readout fine (moves_of sheet) = k.0 ∙ rw n in
        let leads = (read_leads true sheet buffer p shown k (ap (λ (r : Readout). r.refusal.no) own)).1 in
        let moves : p.moves ≡ moves_of sheet = ap (λ (r : Readout). r.moves) own in
        (holds_stock _ _ _ rewritten w, holds_strip _ _ _ rewritten w, again.0 ∙ sym own, again.1 ∙ sym (rw moves at leads))

-- rewriting what was rewritten changes nothing
pub rewritten_twice : (κs κt : Lfts 2) (a : Dens κs rewrite.ps) (r : Written) (t : AtExit (ended_of 2 rewrite.ps rewrite.r) κs) → rewrites.Post κs a r t
    → (b : Dens κt rewrite.ps) (q : Written) (u : AtExit (ended_of 2 rewrite.ps rewrite.r) κt) → rewrites.Post κt b q u
    → r.refusal.no ≡ 0 → b.0.now ≡ take r.length t.1.0.now → length b.0.now ≤ length b.1.0.now
    → (q ≡ as_written fine (length b.0.now)) × (u.1.0.now ≡ b.0.now ++ drop (length b.0.now) b.1.0.now)
rewritten_twice κs κt a r t h b q u k e same room =
    let w = rw (← same) at (rewrites_form κs a r t h e).0 in
    let n = form_stays _ _ _ b.0.now w b.1.0.now room in
    (k.0 ∙ n.0, k.1 ∙ n.1)
