-- A compaction finished by what R is, and the steps of a recovery one behind the other: laws. Assumes nothing.
use Rattle.std.specs.Prelude.{◌≡◌, List, [], ◌∷◌, ℕ, ◌+◌, ◌-◌, ◌≤◌, ◌<◌, length, take, drop}
use Rattle.std.proofs.Common.{sym, ◌∙◌, arith, length-drop}
use Rattle.flash.specs.declared.Power.{Power}
use Rattle.flash.specs.Stores.{each, ◌then◌, Ran}
use Rattle.flash.specs.Laws.{ran_none, ran_then, ran_length}
use Rattle.rules.specs.declared.Area.{Area}
use Rattle.rules.specs.declared.Recovery.{Recovery}
use Rattle.rules.specs.declared.Recovery.TheVariants.{Free, Unfinished, Committed, Damage}
use Rattle.rules.specs.Walk.{rest, stop}
use Rattle.rules.specs.Areas.{R, page, recovery}
use Rattle.rules.specs.Lists.{erase, restore, finish_as, finish, mend, drop_doubles, recover_list}
use Rattle.rules.specs.Laws.{stops_inside}
use Rattle.rules.specs.Places.{Right, right_ran}
use Rattle.demands.specs.Settled.{committed_r}
use Rattle.pages.specs.Kinds.{rest_suffix}

-- ---- a committed R
stops_behind : (p : List ℕ) → 2 ≤ length p → 2 ≤ stop p
unfolding stop rest
stops_behind p h = omega (arith, (rest_suffix 0 (drop 2 p)).0, length-drop 2 p)

module _ {a : Area} {f : List ℕ} {n : ℕ} (own : List ℕ) (r : Right a f) (l : length own ≡ a.words) (s : n ≡ stop own) where
  pub some_words : 1 ≤ n
  some_words = let w = r.wide in omega (arith, stops_behind own (omega arith))

  pub few_words : n - 1 + 2 ≤ a.words
  few_words = let w = r.wide in omega (arith, stops_behind own (omega arith), stops_inside own (omega arith))

pub page_finished : {own : List ℕ} {n : ℕ} {p q : Power} {f g : List ℕ} (a : Area) (i : ℕ) → Ran (restore a i (take (n - 1) (drop 2 (page a f (R a))))) p f q g
    → own ≡ page a f (R a) → n ≡ stop own → Ran (finish_as (Committed i) a f) p f q g
page_finished a i x o s = rw (s, o) at x

-- ---- R, whatever it is
module _ {k : Recovery} (a : Area) (f : List ℕ) (e : k ≡ recovery a f) where
  pub finish_free : {p : Power} → k ≡ Free → Ran (finish a f) p f p f
  finish_free {p} t = rw (← e, t) (ran_none p f)

  pub finish_unfinished : {p q : Power} {g : List ℕ} → k ≡ Unfinished → Ran (erase a (R a) ∷ []) p f q g → Ran (finish a f) p f q g
  finish_unfinished t x = rw (← e, t) x

  module _ {i : ℕ} (t : k ≡ Committed i) where
    pub named_page : i < a.pages
    named_page = (committed_r a.pages i (page a f (R a)) (sym e ∙ t)).0

    pub finish_committed : {p q : Power} {g : List ℕ} → Ran (finish_as (Committed i) a f) p f q g → Ran (finish a f) p f q g
    finish_committed x = rw (← e, t) x

  pub finish_damage : {p : Power} → k ≡ Damage → Ran (finish a f) p f p f
  finish_damage {p} t = rw (← e, t) (ran_none p f)

pub ruleset finishes = (some_words, few_words, page_finished, finish_free, finish_unfinished, named_page, finish_committed, finish_damage, right_ran, ran_length)

-- ---- all steps
pub all_recovered : {p q r s : Power} {f g h k : List ℕ} (a : Area) → Ran (finish a f) p f q g → Ran (each (mend a) a.pages 0 g) q g r h → Ran (drop_doubles a h) r h s k
    → Ran (recover_list a f) p f s k
all_recovered a x y z = ran_then (finish a) (each (mend a) a.pages 0 then drop_doubles a) x (ran_then (each (mend a) a.pages 0) (drop_doubles a) y z)
