-- An entry behind the others, and the page that it goes to: laws. Assumes nothing.
use Rattle.std.specs.Prelude.{◌≡◌, refl, List, [], ◌∷◌, ◌++◌, ℕ, suc, ◌+◌, ◌*◌, ◌≤◌, ◌<◌, length, Option, Some, None}
use Rattle.std.proofs.Common.{ap, ◌∙◌, arith, add-one, Fits}
use Rattle.std.specs.Int.{w64}
use Rattle.flash.specs.declared.Power.{Power}
use Rattle.flash.specs.Stores.{put, puts, ◌then◌, Ran}
use Rattle.flash.specs.Laws.{ran_none, ran_cons, ran_append, ran_length}
use Rattle.rules.specs.declared.Area.{Area}
use Rattle.rules.specs.Words.{header, seal}
use Rattle.rules.specs.Walk.{entry_length, stop}
use Rattle.rules.specs.Areas.{base, page}
use Rattle.rules.specs.Lists.{compact, room_page, append, append_to}
use Rattle.rules.specs.Laws.{stops_inside}
use Rattle.rules.specs.Places.{Right, base_suc, length_page, page_in, right_ran}
use Rattle.survey.specs.declared.FoundPage.{FoundPage}
use Rattle.survey.specs.declared.View.{View}
use Rattle.survey.specs.declared.FoundPage.{FoundPage}
use Rattle.survey.specs.Surveying.{view_of}
use Rattle.survey.specs.Views.{view_entry, room_none, room_some, room_stop, room_below, compact_none, compact_some, compact_below}
use Rattle.stores.specs.Making.{base_small, bare_found, found_counted, puts_append}
use Rattle.writing.specs.Moving.{append_over, over_found, over_compacted}
use Rattle.rules.specs.declared.Found.{Found}

pub header_is : (h l : ℕ) → 65536 * h + l ≡ header h l
unfolding header
header_is h l = refl

-- ---- an entry and the seal behind it
pub entry_put : {p q r s : Power} {f g h k : List ℕ} {w : ℕ} (at hd : ℕ) (d : List ℕ) → Ran (put at w ∷ []) p f q g → Ran (puts (at + 1) d) q g r h
    → Ran (put (at + 1 + length d) seal ∷ []) r h s k → w ≡ header hd (length d + 1) → Ran (puts at (header hd (entry_length d) ∷ (d ++ seal ∷ []))) p f s k
entry_put at hd d x y z e =
    let n : at + 1 ≡ suc at = add-one at in
    ran_cons (rw e at x) (rw (puts_append (suc at) d (seal ∷ [])) (ran_append (rw n at y) (rw n at z)))

-- behind those of a page, at a place that can be counted
module _ {a : Area} {f : List ℕ} {i b n : ℕ} (r : Right a f) (h : i < a.pages) (e : b ≡ base a i) (s : n ≡ stop (page a f i)) where
  pub place_small : b + n ≤ 262143
  unfolding base
  place_small =
      let m = r.many in
      let w = r.wide in
      let l = length_page a f i (page_in r i (omega arith)) in
      omega (arith, base_suc a i, base_small a (suc i) r.narrow (omega arith), stops_inside (page a f i) (omega arith))

  pub place_fits : Fits w64 (b + n)
  place_fits = record { fits = omega (arith, place_small) }

  pub appended : {p q t : Power} {g k : List ℕ} (old : Option Found) (hd : ℕ) (d : List ℕ) → Ran (puts (b + n) (header hd (entry_length d) ∷ (d ++ seal ∷ []))) p f q g
      → Ran (bare_found old) q g t k → Ran (append_over a hd d i old f) p f t k
  unfolding append_over
  appended old hd d x y = ran_append (rw (e, s) at x) y

-- the stop of a page, from its words
pub page_stop : {own : List ℕ} {n : ℕ} (a : Area) (f : List ℕ) (i : ℕ) → n ≡ stop own → own ≡ page a f i → n ≡ stop (page a f i)
page_stop a f i s o = s ∙ ap stop o

-- ---- the page that it goes to
module _ {v : View} (a : Area) (f : List ℕ) (h : ℕ) (d : List ℕ) (e : v ≡ view_of a f h (entry_length d)) where
  pub none_compacted : {p : Power} → v.compact ≡ None → Ran (append_to a h d None f) p f p f
  none_compacted {p} q = rw (compact_none a f h (entry_length d) e q) (ran_none p f)

  pub compact_within : {g : FoundPage} → v.compact ≡ Some g → g.index ≤ a.pages
  compact_within q = omega (arith, compact_below a f h (entry_length d) e q)

  pub one_compacted : {p r : Power} {k : List ℕ} {g : FoundPage} → v.compact ≡ Some g → Ran ((compact a g.index then append a h d g.index) f) p f r k → Ran (append_to a h d None f) p f r k
  one_compacted q x = rw (compact_some a f h (entry_length d) e q) x

  module _ {p q : Power} {g : List ℕ} where
    pub no_room_left : v.room ≡ None → Ran (append_to a h d None f) p f q g → Ran (append_to a h d (room_page a f (entry_length d)) f) p f q g
    no_room_left t x = rw (room_none a f h (entry_length d) e t) x

    pub room_left : {s : FoundPage} → v.room ≡ Some s → Ran (append_over a h d s.index v.entry f) p f q g → Ran (append_to a h d (room_page a f (entry_length d)) f) p f q g
    room_left {s} t x = rw (room_some a f h (entry_length d) e t) (over_found a h d s.index f (view_entry a f h (entry_length d) e) x)

pub ruleset appends = (header_is, entry_put, place_small, place_fits, appended, page_stop, over_compacted, found_counted, none_compacted, one_compacted, no_room_left, room_left, view_entry, room_stop, room_below, compact_below, compact_within, right_ran, ran_length)
