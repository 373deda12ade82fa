-- The laws of `Finishing` and `Mending` on an area that is lent for storing. The run r is what was read of it. Assumes nothing.
use Rattle.std.specs.Prelude.{◌≡◌, refl, List, [], ◌∷◌, ℕ, ◌+◌, ◌-◌, ◌<◌, take, drop, Option}
use Rattle.std.proofs.Common.{◌∙◌}
use Rattle.flash.specs.Stores.{put, each}
use Rattle.flash.specs.Laws.{turn_on}
use Rattle.rules.specs.declared.Kind.{Kind}
use Rattle.rules.specs.declared.Kind.TheVariants.{Sealed, Torn, Neither}
use Rattle.rules.specs.declared.Recovery.{Recovery}
use Rattle.rules.specs.declared.Recovery.TheVariants.{Free, Unfinished, Committed, Damage}
use Rattle.rules.specs.Words.{seal}
use Rattle.rules.specs.Walk.{stop}
use Rattle.rules.specs.Areas.{R, base, page, kind, recovery}
use Rattle.rules.specs.Lists.{erase, restore, finish_as, finish, last_of, mend_as, mend, drop_doubles, recover_list}
use Rattle.pages.specs.Steps.{entries_at}
use Rattle.area.specs.declared.held.Held.{Held}
use Rattle.area.specs.declared.run.Run.{Run}
use Rattle.area.specs.Holding.{Runs, runs_over, Going, goings}
use Rattle.area.specs.Reading.{Shows}
use Rattle.rules.specs.declared.Found.{Found}
use Rattle.entries.specs.Ahead.{found_of}
use Rattle.stores.specs.Making.{bare_found}
use Rattle.recovery.specs.Finishing.{page_finished, finish_free, finish_unfinished, finish_committed, finish_damage, all_recovered}
use Rattle.recovery.specs.Mending.{if_live, torn_mended, mend_sealed, mend_torn, mend_neither}

-- ---- a compaction finished by what R is
pub held_finished : {x y : Held} {r : Run} {own : List ℕ} {n : ℕ} (i : ℕ) → Runs (restore x.area i (take (n - 1) (drop 2 (page x.area x.run.now (R x.area))))) x y
    → own ≡ page r.area r.words.now (R r.area) → Shows x.area x.run.now r → n ≡ stop own → Runs (finish_as (Committed i) x.area x.run.now) x y
held_finished {x} i p o e s = record { ran = page_finished x.area i p.ran (rw (e.area, e.words) at o) s; area = p.area; same = p.same }

module _ {k : Recovery} {r : Run} where
  pub held_free : {x : Held} → k ≡ recovery r.area r.words.now → Shows x.area x.run.now r → k ≡ Free → Runs (finish x.area x.run.now) x x
  held_free {x} e o t = record { ran = finish_free x.area x.run.now (rw (o.area, o.words) at e) t; area = refl; same = refl }

  pub held_unfinished : {x y : Held} → k ≡ recovery r.area r.words.now → Shows x.area x.run.now r → k ≡ Unfinished → Runs (erase x.area (R x.area) ∷ []) x y → Runs (finish x.area x.run.now) x y
  held_unfinished {x} e o t p = record { ran = finish_unfinished x.area x.run.now (rw (o.area, o.words) at e) t p.ran; area = p.area; same = p.same }

  pub held_committed : {x y : Held} {i : ℕ} → k ≡ recovery r.area r.words.now → Shows x.area x.run.now r → k ≡ Committed i → Runs (finish_as (Committed i) x.area x.run.now) x y → Runs (finish x.area x.run.now) x y
  held_committed {x} e o t p = record { ran = finish_committed x.area x.run.now (rw (o.area, o.words) at e) t p.ran; area = p.area; same = p.same }

  pub held_damage : {x : Held} → k ≡ recovery r.area r.words.now → Shows x.area x.run.now r → k ≡ Damage → Runs (finish x.area x.run.now) x x
  held_damage {x} e o t = record { ran = finish_damage x.area x.run.now (rw (o.area, o.words) at e) t; area = refl; same = refl }

pub ruleset held_finishes = (held_finished, held_free, held_unfinished, held_committed, held_damage)

-- ---- a page mended by what it is
pub held_torn : {x y z : Held} {b i n : ℕ} {r : Run} {part own : List ℕ} {found : Option Found} → b ≡ base x.area i → i < x.area.pages → Shows x.area x.run.now r → part ≡ take (b + x.area.words) r.words.now
    → found ≡ found_of (if_live (last_of (entries_at part (b + 2)))) → own ≡ page r.area r.words.now i → n ≡ stop own
    → Runs (bare_found found) x y → Runs (put (b + n) seal ∷ []) y z → Runs (mend_as Torn x.area i x.run.now) x z
held_torn {x} c l o d e w s p q = runs_over p q (torn_mended x.right c l (rw o.words at d) e (rw (o.area, o.words) at w) s p.ran q.ran)

module _ {k : Kind} {r : Run} (i : ℕ) where
  pub held_sealed : {x : Held} → k ≡ kind r.area r.words.now i → Shows x.area x.run.now r → k ≡ Sealed → Runs (mend x.area i x.run.now) x x
  held_sealed {x} e o t = record { ran = mend_sealed x.area x.run.now i (rw (o.area, o.words) at e) t; area = refl; same = refl }

  pub held_mended : {x y : Held} → k ≡ kind r.area r.words.now i → Shows x.area x.run.now r → k ≡ Torn → Runs (mend_as Torn x.area i x.run.now) x y → Runs (mend x.area i x.run.now) x y
  held_mended {x} e o t p = record { ran = mend_torn x.area x.run.now i (rw (o.area, o.words) at e) t p.ran; area = p.area; same = p.same }

  pub held_neither : {x : Held} → k ≡ kind r.area r.words.now i → Shows x.area x.run.now r → k ≡ Neither → Runs (mend x.area i x.run.now) x x
  held_neither {x} e o t = record { ran = mend_neither x.area x.run.now i (rw (o.area, o.words) at e) t; area = refl; same = refl }

pub mending_on : {n i : ℕ} {x y z : Held} → Going (mend x.area) n x i y → i < n → Runs (mend y.area i y.run.now) y z → Going (mend x.area) n x (i + 1) z
mending_on g l r = record { turn = turn_on g.turn l (rw g.area at r.ran); area = r.area ∙ g.area; same = r.same ∙ g.same }

pub ruleset held_mends = (goings, mending_on, held_torn, held_sealed, held_mended, held_neither)

-- ---- all steps
pub held_recovered : {x y z w : Held} → Runs (finish x.area x.run.now) x y → Runs (each (mend y.area) y.area.pages 0 y.run.now) y z → Runs (drop_doubles z.area z.run.now) z w
    → Runs (recover_list x.area x.run.now) x w
held_recovered {x} {z = z} p q r =
    let s : z.area ≡ x.area = q.area ∙ p.area in
    record { ran = all_recovered x.area p.ran (rw p.area at q.ran) (rw s at r.ran); area = r.area ∙ s; same = r.same ∙ q.same ∙ p.same }
