-- Proofs. A walker with the directions of the kinds above one turned; and that the walker after a move is the walker before it, so turned.
use Prim.Native.Nat.{ℕ, suc, ◌+◌, ◌-◌, ◌≤◌, ◌<◌}
use mathlib.Core.Path.{◌≡◌, refl, sym, ap, ◌∙◌}
use mathlib.Core.Bool.{Bool, false, not, ◌&&◌}
use mathlib.Core.Option.{Option}
use mathlib.Core.List.{List, reverse}
use native.Mathlib.Decide.{dec_lt}
use native.Mathlib.Omega.{arith}
use borrow.Author.Tests.{lt-ltb, le-ltb, le-leb, lt-leb}
use lib.Dec.{ltb, leb}
use lib.ListN.{length, get_or, take, drop, length-drop}
use borrow.Rule.Slice.PartMut.{put_mid, same_len_mid}
use Rattle.std.proofs.lemmas.List.{length-take-le, get_or-take, get_or-drop, get_or_append_left, get_or-append_right}
use Rattle.rules.specs.Stock.{IsStrip}
use Rattle.rules.specs.Book.{backward}
use Rattle.rules.proofs.Listed.{flip}
use Rattle.rules.proofs.Walk.{Move, Leads}
use Rattle.rules.proofs.Directions.{kinds_above_turn}
use Rattle.walker.specs.declared.Walker.{Walker}
use Rattle.walker.specs.Walkers.{walker_for}
use Rattle.walker.specs.Turned.{turned_at, above_turned}
use Rattle.walker.proofs.ByKind.{at_kind, same_walker, walker_to, walker_to_lem, to_long, to_at}

module _ (kind last : ℕ) (w : Walker) where
  long : length (above_turned kind last w).back ≡ 16
  unfolding above_turned
  long = refl

  module _ (i : ℕ) (h : i < 16) where
    turned_at_lem : get_or (above_turned kind last w).back i false ≡ flip (leb (suc i) last && ltb kind (suc i)) (get_or w.back i false)
    unfolding above_turned
    turned_at_lem =
        let e : suc i - 1 ≡ i = omega arith in
        rw e at (at_kind (turned_at kind last w) i h)

    turned : kind ≤ i → i < last → get_or (above_turned kind last w).back i false ≡ not (get_or w.back i false)
    turned k l = rw (le-leb (suc i) last l, lt-ltb kind (suc i) (omega arith)) at turned_at_lem

    stays : (i < last → i < kind) → get_or (above_turned kind last w).back i false ≡ get_or w.back i false
    stays k = elim (dec_lt i last) [
      | yes l ↦ rw (le-leb (suc i) last l, le-ltb kind (suc i) (k l)) at turned_at_lem
      | no l ↦ rw (lt-leb (suc i) last (omega arith)) at turned_at_lem
    ]

-- ---- a loop that turns them, in their part of the walker

-- no turned direction stands outside the part
module _ (kind last : ℕ) (w : Walker) (l : kind ≤ last) (m : last ≤ 16) (k : length w.back ≡ 16) (part : List Bool) (lp : length part ≡ last - kind)
    (h : (i : ℕ) → i < last - kind → get_or part i false ≡ not (get_or (take (last - kind) (drop kind w.back)) i false)) where
  abbrev front : List Bool
  front = take kind w.back

  front_long : length front ≡ kind
  front_long = length-take-le kind w.back (omega arith)

  inside : (i : ℕ) → i < last - kind → get_or part i false ≡ not (get_or w.back (kind + i) false)
  inside i n = h i n ∙ ap not (get_or-take (last - kind) (drop kind w.back) i false n ∙ get_or-drop kind w.back i false)

  at_part : (i : ℕ) → i < 16 → get_or (put_mid kind (last - kind) w.back part) i false ≡ get_or (above_turned kind last w).back i false
  at_part i n = elim (dec_lt i kind) [
    | yes b ↦ get_or_append_left front _ false i (omega (arith, front_long)) ∙ get_or-take kind w.back i false b ∙ sym (stays kind last w i n (λ c. b))
    | no b ↦
        let e : kind + (i - kind) ≡ i = omega arith in
        get_or-append_right front _ kind i false front_long (omega arith)
        ∙ elim (dec_lt i last) [
          | yes c ↦ get_or_append_left part _ false (i - kind) (omega arith) ∙ inside (i - kind) (omega arith) ∙ rw e (sym (turned kind last w i n (omega arith) c))
          | no c ↦
              let f : kind + (last - kind + (i - kind - (last - kind))) ≡ i = omega arith in
              get_or-append_right part _ (last - kind) (i - kind) false lp (omega arith)
              ∙ get_or-drop (last - kind) (drop kind w.back) (i - kind - (last - kind)) false
              ∙ get_or-drop kind w.back (last - kind + (i - kind - (last - kind))) false
              ∙ rw f (sym (stays kind last w i n (λ d. absurd (omega arith))))
        ]
  ]

  pub turned_part : record { back = put_mid kind (last - kind) w.back part } ≡ above_turned kind last w
  turned_part = same_walker _ _ (same_len_mid kind (last - kind) w.back part (lp ∙ sym (length-take-le (last - kind) (drop kind w.back) (omega (arith, length-drop kind w.back)))) ∙ k) (long kind last w) at_part

-- ---- a move

module _ (counts s t : List ℕ) (hs : IsStrip counts s) (ht : IsStrip counts t) (o : Option Move) (m : Leads (reverse counts) s t o) where
  abbrev last : ℕ
  last = length counts

  turns : (i : ℕ) → Dec (i < last) → leb (suc i) last && backward counts (suc i) t ≡ flip (leb (suc i) last && ltb m.kind (suc i)) (leb (suc i) last && backward counts (suc i) s)
  turns i (yes l) = rw (le-leb (suc i) last l) (kinds_above_turn counts s t hs ht o m i l)
  turns i (no l) = rw (lt-leb (suc i) last (omega arith))

  -- the walker of the strip that a move leads to: the kinds above the one that moves turn, it and those below do not
  pub move_turns : walker_for counts t ≡ above_turned m.kind last (walker_for counts s)
  move_turns =
      let w = walker_to counts s last in
      rw (walker_to_lem counts s, walker_to_lem counts t)
      (same_walker (walker_to counts t last) (above_turned m.kind last w) (to_long counts t last) (long m.kind last w) (λ i h.
      to_at counts t last i h
      ∙ turns i (dec_lt i last)
      ∙ sym (rw (to_at counts s last i h) at (turned_at_lem m.kind last w i h))))
