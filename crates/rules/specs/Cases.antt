-- Cases that the definitions compute: acts on an area, what must be seen at each, and the words of the run that must stand at the end.
-- Definitions alone. Assumes nothing.
use Rattle.std.specs.Prelude.{List, [], ◌∷◌, map, ℕ, suc, zero, ◌+◌, take, drop, replicate, Option}
use Rattle.rules.specs.declared.Area.{Area}
use Rattle.rules.specs.declared.Kind.{Kind}
use Rattle.rules.specs.declared.Recovery.{Recovery}
use Rattle.rules.specs.Walk.{stop}
use Rattle.rules.specs.Areas.{page, kind, recovery, entries, map_of, live_words}
use Rattle.rules.specs.Refusals.{area_quota, reading_place, reading_words, outcome, Answer, Reading, Yielded}
use Rattle.rules.specs.Lists.{Request, plan_of}
use Rattle.rules.specs.Search.{read_of, Search, step_of, moved}

-- a request with its power; a read; a search from a place, with the number of its steps; a look at a page, at R, at the map, at live words
pub data Act : Type 0 where
  asks : Request → ℕ → Act
  reads : ℕ → Act
  searches : ℕ → ℕ → ℕ → ℕ → Act
  looks : ℕ → Act
  looks_at-R : Act
  looks_up : ℕ → Act
  weighs : Act

-- an answer; a reading, with the data words that stand there; what each step of a search yields; the kind of a page and the place where
-- its walk stops; the kind of R; what the map gives a handle; live words and the quota
pub data Seen : Type 0 where
  answer : Answer → Seen
  reading : Reading → List ℕ → Seen
  yields : List Yielded → Seen
  page_is : Kind → ℕ → Seen
  R-is : Recovery → Seen
  value : Option (List ℕ) → Seen
  weight : ℕ → ℕ → Seen

abbrev pub yields_of : ℕ → Search → List Yielded
yields_of zero s = []
yields_of (suc n) s = step_of s ∷ yields_of n (moved s)

abbrev pub seen : Area → Act → List ℕ → Seen
seen a (asks r k) f = answer (outcome (plan_of a r) k f).answer
seen a (reads h) f = let r = read_of a h f in reading r (take (reading_words r) (drop (reading_place r + 1) f))
seen a (searches m q p n) f = yields (yields_of n (record { area = a; run = f; mask = m; pattern = q; place = p }))
seen a (looks i) f = page_is (kind a f i) (stop (page a f i))
seen a looks_at-R f = R-is (recovery a f)
seen a (looks_up h) f = value (map_of a f h)
seen a weighs f = weight (live_words (entries a f)) (area_quota a)

abbrev pub after : Area → Act → List ℕ → List ℕ
after a (asks r k) f = (outcome (plan_of a r) k f).flash
after a (reads h) f = f
after a (searches m q p n) f = f
after a (looks i) f = f
after a looks_at-R f = f
after a (looks_up h) f = f
after a weighs f = f

pub record Case : Type 0 where
  pub area : Area
  pub start : List ℕ
  pub steps : List (Act × Seen)
  pub words : List ℕ

abbrev pub all_seen : Area → List (Act × Seen) → List ℕ → List Seen
all_seen a [] f = []
all_seen a (x ∷ xs) f = seen a x.0 f ∷ all_seen a xs (after a x.0 f)

abbrev pub at_end : Area → List (Act × Seen) → List ℕ → List ℕ
at_end a [] f = f
at_end a (x ∷ xs) f = at_end a xs (after a x.0 f)

-- what comes of a case by the definitions, and what must come of it
abbrev pub comes : Case → List Seen × List ℕ
comes c = (all_seen c.area c.steps c.start, at_end c.area c.steps c.start)

abbrev pub must : Case → List Seen × List ℕ
must c = (map (λ x. x.1) c.steps, c.words)

-- ---- what cases are made of
abbrev pub small : ℕ → Area
small n = record { pages = n; words = 64 }

abbrev pub zeros : ℕ → List ℕ
zeros n = replicate n 0x00000000

abbrev pub blanks : ℕ → List ℕ
blanks n = replicate n 0xFFFFFFFF

abbrev pub sevens : ℕ → List ℕ
sevens n = replicate n 0x00000007

-- power for every list
abbrev pub enough : ℕ
enough = 0xFFFFFFFF
