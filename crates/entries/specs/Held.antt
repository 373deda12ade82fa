-- The laws of `Doubles` on an area that is lent for storing. The run r is what was read of it. Assumes nothing.
use Rattle.std.specs.Prelude.{◌≡◌, refl, [], ◌∷◌, Bool, true, false, ℕ, ◌<◌, length, Option, Some}
use Rattle.std.proofs.Common.{sym, ◌∙◌}
use Rattle.flash.specs.Stores.{put, Ran}
use Rattle.rules.specs.Areas.{entries}
use Rattle.rules.specs.Lists.{supersede}
use Rattle.area.specs.declared.held.Held.{Held}
use Rattle.area.specs.declared.run.Run.{Run}
use Rattle.area.specs.Holding.{Runs}
use Rattle.area.specs.Reading.{Shows}
use Rattle.entries.specs.declared.walk.Cursor.{Cursor}
use Rattle.entries.specs.declared.walk.Header.{Header}
use Rattle.entries.specs.Ahead.{ahead, entries_of, first_cursor, Sound, Passed}
use Rattle.entries.specs.Noting.{beside}
use Rattle.entries.specs.Repeats.{twice_in}
use Rattle.entries.specs.Doubles.{put_if, drops, put_wanted, put_unwanted, Dropping, dropping_start, dropping_end, dropping_on, dropping_fewer, none_dropped}

-- ---- one store, if it is to be made
pub held_wanted : {at w : ℕ} {x y : Held} (t : Bool) → Runs (put at w ∷ []) x y → t ≡ true → Runs (put_if t at w) x y
held_wanted t p e = record { ran = put_wanted t p.ran e; area = p.area; same = p.same }

pub held_unwanted : {x : Held} (t : Bool) (at w : ℕ) → t ≡ false → Runs (put_if t at w) x x
held_unwanted t at w e = record { ran = put_unwanted t at w e; area = refl; same = refl }

-- for an entry whose handle is looked for behind a cursor
module _ {x : Held} {r : Run} {t : Bool} (e : Header) (d : Cursor) (o : Option ℕ) (i : Shows x.area x.run.now r) (q : t ≡ drops o e.handle (ahead r.area r.words.now d)) where
  pub behind_stored : {y : Held} → Runs (put e.place e.length ∷ []) x y → t ≡ true → Runs (put_if (drops o e.handle (ahead x.area x.run.now d)) e.place e.length) x y
  behind_stored p z = held_wanted (drops o e.handle (ahead x.area x.run.now d)) p (sym (rw (i.area, i.words) at q) ∙ z)

  pub behind_left : t ≡ false → Runs (put_if (drops o e.handle (ahead x.area x.run.now d)) e.place e.length) x x
  behind_left z = held_unwanted (drops o e.handle (ahead x.area x.run.now d)) e.place e.length (sym (rw (i.area, i.words) at q) ∙ z)

-- ---- a loop over the entries, begun at x, has dropped the doubles in front of a cursor, at y
pub record Drops (o : Option ℕ) (x : Held) (c : Cursor) (y : Held) : Type 0 where
  pub dropping : Dropping o x.area x.power x.run.now c y.power y.run.now
  pub area : y.area ≡ x.area
  pub same : y.run.ghost_name ≡ x.run.ghost_name

pub drops_start : {o : Option ℕ} {x : Held} {c : Cursor} → c ≡ first_cursor x.area → ((k : ℕ) → o ≡ Some k → twice_in (beside k) (entries x.area x.run.now) ≡ false) → Drops o x c x
drops_start {x = x} s n = record { dropping = dropping_start s x.right n; area = refl; same = refl }

module _ {o : Option ℕ} {x y : Held} {c : Cursor} (s : Drops o x c y) where
  pub drops_sound : {r : Run} → Shows y.area y.run.now r → Sound r.area r.words.now c
  drops_sound i = rw (i.area, i.words, s.area) s.dropping.sound

  pub drops_end : {r : Run} → Shows y.area y.run.now r → ahead r.area r.words.now c ≡ [] → Runs (supersede (entries x.area x.run.now)) x y
  drops_end i z = record { ran = dropping_end s.dropping (rw (i.area, i.words, s.area) at z); area = s.area; same = s.same }

  module _ {r : Run} {d : Cursor} {e : Header} (i : Shows y.area y.run.now r) (w : Sound r.area r.words.now d) (p : Passed r.area r.words.now c e d) where
    sound : Sound x.area y.run.now d
    sound = rw (i.area, i.words, s.area) at w

    passed : Passed x.area y.run.now c e d
    passed = rw (i.area, i.words, s.area) at p

    module _ {v : Held} (q : Runs (put_if (drops o e.handle (ahead y.area y.run.now d)) e.place e.length) y v) where
      ran : Ran (put_if (drops o e.handle (ahead x.area y.run.now d)) e.place e.length) y.power y.run.now v.power v.run.now
      ran = rw s.area at q.ran

      pub drops_fewer : length (ahead x.area v.run.now d) < length (ahead x.area y.run.now c)
      drops_fewer = dropping_fewer s.dropping sound passed ran

      pub drops_on : Drops o x d v
      drops_on = record { dropping = dropping_on s.dropping sound passed ran; area = q.area ∙ s.area; same = q.same ∙ s.same }

pub ruleset held_drops = (held_wanted, held_unwanted, drops_start, drops_sound, drops_end, drops_fewer, drops_on)

-- ---- no handle is live twice
pub held_once : {x : Held} {r : Run} → Shows x.area x.run.now r → false ≡ twice_in (beside 0) (entries_of r) → Runs (supersede (entries x.area x.run.now)) x x
held_once {x} i e = record { ran = none_dropped x.area x.run.now (rw (i.area, i.words) at e); area = refl; same = refl }
