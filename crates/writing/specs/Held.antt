-- The laws of `Appending` on an area that is lent for storing. The run r is what was read of it. Assumes nothing.
use Rattle.std.specs.Prelude.{◌≡◌, refl, List, [], ◌∷◌, ◌++◌, ℕ, ◌+◌, ◌<◌, true, Option, Some, None}
use Rattle.std.specs.Option.{option_or}
use Rattle.flash.specs.Stores.{puts, ◌then◌, Ran}
use Rattle.flash.specs.declared.Power.{Power}
use Rattle.flash.specs.Laws.{small_words}
use Rattle.rules.specs.Words.{header, seal}
use Rattle.rules.specs.Walk.{entry_length, stop}
use Rattle.rules.specs.Areas.{base, page, page_entries, entries, find, ready}
use Rattle.rules.specs.Lists.{compact, room_page, append, append_to}
use Rattle.area.specs.declared.held.Held.{Held}
use Rattle.area.specs.declared.run.Run.{Run}
use Rattle.area.specs.Holding.{Runs, runs_over}
use Rattle.area.specs.Reading.{Shows}
use Rattle.rules.specs.declared.Found.{Found}
use Rattle.entries.specs.Ahead.{found_of}
use Rattle.survey.specs.declared.FoundPage.{FoundPage}
use Rattle.survey.specs.declared.View.{View}
use Rattle.survey.specs.Surveying.{view_of}
use Rattle.stores.specs.Making.{bare_found}
use Rattle.writing.specs.Moving.{append_over, over_compacted}
use Rattle.writing.specs.Appending.{appended, none_compacted, one_compacted, no_room_left, room_left}

-- ---- an entry and the seal behind it
pub held_appended : {x y : Held} {q : Power} {g : List ℕ} {i b n : ℕ} (old : Option Found) (hd : ℕ) (d : List ℕ) → Ran (puts (b + n) (header hd (entry_length d) ∷ (d ++ seal ∷ []))) x.power x.run.now q g
    → Ran (bare_found old) q g y.power y.run.now → y.area ≡ x.area → y.run.ghost_name ≡ x.run.ghost_name → i < x.area.pages → b ≡ base x.area i → n ≡ stop (page x.area x.run.now i)
    → Runs (append_over x.area hd d i old x.run.now) x y
held_appended {x} old hd d p q e s h k l = record { ran = appended x.right h k l old hd d p q; area = e; same = s }

-- ---- behind a compaction
pub held_over : {x y z : Held} {i : ℕ} {r : Run} {old before : Option Found} (h : ℕ) (d : List ℕ) → Runs (append_over y.area h d i old y.run.now) y z → Runs (compact x.area i x.run.now) x y
    → old ≡ option_or (found_of (find h (page_entries r.area r.words.now i))) before → Shows y.area y.run.now r → before ≡ found_of (find h (entries x.area x.run.now)) → ready x.area x.run.now ≡ true → i < x.area.pages
    → Runs ((compact x.area i then append x.area h d i) x.run.now) x z
held_over {x} h d p q m o b e l = runs_over q p (over_compacted h d (rw q.area at p.ran) q.ran (rw (o.area, o.words, q.area) at m) b (small_words x.run.now x.sized) x.right e l)

-- ---- the page that it goes to
module _ {v : View} (h : ℕ) (d : List ℕ) where
  pub held_full : {x : Held} → v ≡ view_of x.area x.run.now h (entry_length d) → v.compact ≡ None → Runs (append_to x.area h d None x.run.now) x x
  held_full {x} e q = record { ran = none_compacted x.area x.run.now h d e q; area = refl; same = refl }

  module _ {x y : Held} {g : FoundPage} where
    pub held_compact : v ≡ view_of x.area x.run.now h (entry_length d) → v.compact ≡ Some g → Runs ((compact x.area g.index then append x.area h d g.index) x.run.now) x y
        → Runs (append_to x.area h d None x.run.now) x y
    held_compact e q p = record { ran = one_compacted x.area x.run.now h d e q p.ran; area = p.area; same = p.same }

    pub held_room : v ≡ view_of x.area x.run.now h (entry_length d) → v.room ≡ Some g → Runs (append_over x.area h d g.index v.entry x.run.now) x y
        → Runs (append_to x.area h d (room_page x.area x.run.now (entry_length d)) x.run.now) x y
    held_room e t p = record { ran = room_left x.area x.run.now h d e t p.ran; area = p.area; same = p.same }

  pub held_no_room : {x y : Held} → v ≡ view_of x.area x.run.now h (entry_length d) → v.room ≡ None → Runs (append_to x.area h d None x.run.now) x y
      → Runs (append_to x.area h d (room_page x.area x.run.now (entry_length d)) x.run.now) x y
  held_no_room {x} e t p = record { ran = no_room_left x.area x.run.now h d e t p.ran; area = p.area; same = p.same }

pub ruleset held_appends = (held_appended, held_over, held_full, held_compact, held_room, held_no_room)
