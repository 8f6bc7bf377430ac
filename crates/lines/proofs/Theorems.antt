-- Theorems. One outcome of each open call: two that the contract allows for one input are the same.
use mathlib.Core.Path.{sym, ◌∙◌}
use Rattle.rules.specs.Outcome.{OneOutcome}
use Rattle.lines.proofs.writing.put_strip.Kinds as put_strip
use Rattle.lines.proofs.writing.put_strip.Reads as put_strip_reads
use Rattle.lines.proofs.writing.put_unreadable.Kinds as put_unreadable
use Rattle.lines.proofs.writing.put_unreadable.Reads as put_unreadable_reads
use Rattle.lines.proofs.writing.put_refusal.Kinds as put_refusal
use Rattle.lines.proofs.writing.put_refusal.Reads as put_refusal_reads

pub strip_one_outcome : OneOutcome 2 put_strip.ps put_strip.r (λ κs s. s.0.now) put_strip_reads.Post
strip_one_outcome κs a x y s t h k = (h.0 ∙ sym k.0, h.1 ∙ sym k.1)

pub unreadable_one_outcome : OneOutcome 1 put_unreadable.ps put_unreadable.r (λ κs s. s.0.now) put_unreadable_reads.Post
unreadable_one_outcome κs a x y s t h k = (h.0 ∙ sym k.0, h.1 ∙ sym k.1)

pub refusal_one_outcome : OneOutcome 1 put_refusal.ps put_refusal.r (λ κs s. s.0.now) put_refusal_reads.Post
refusal_one_outcome κs a x y s t h k = (h.0 ∙ sym k.0, h.1 ∙ sym k.1)
