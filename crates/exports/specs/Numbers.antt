-- What the exported requests promise: the manager's promises by their numbers; and that they allow one outcome. Assumes nothing.
use Rattle.std.specs.Prelude.{◌≡◌, List, ℕ}
use Rattle.std.proofs.Common.{ap, ◌∙◌}
use Rattle.flash.specs.Laws.{settled}
use Rattle.rules.specs.declared.Area.{Area}
use Rattle.rules.specs.Refusals.{answer_number, answer_stores, reading_number, reading_place, reading_words, yielded_number, yielded_place, outcome, Answer, Reading, Yielded}
use Rattle.rules.specs.Lists.{Request, plan_of}
use Rattle.rules.specs.Search.{read_of, search_of}
use Rattle.manager.specs.Reading.{Reads}
use Rattle.manager.specs.Storing.{Answers}
use Rattle.searching.specs.Searching.{Searches}

abbrev pub area_of : ℕ → ℕ → Area
area_of n p = record { pages = n; words = p }

-- ---- the promises
-- of a request r with power for k stores on the flash f: the number that is given, n, the stores, s, and the flash that is left, g, are those
-- of the outcome of its plan
pub record Gives (a : Area) (r : Request) (k : ℕ) (f : List ℕ) (n s : ℕ) (g : List ℕ) : Type 0 where
  pub number : n ≡ answer_number (outcome (plan_of a r) k f).answer
  pub stores : s ≡ answer_stores (outcome (plan_of a r) k f).answer
  pub flash : g ≡ (outcome (plan_of a r) k f).flash

pub gives : {a : Area} {r : Request} {k n s : ℕ} {f g : List ℕ} {x : Answer} → Answers a r k f x g → n ≡ answer_number x → s ≡ answer_stores x → Gives a r k f n s g
gives c e d = record { number = e ∙ ap answer_number c.answer; stores = d ∙ ap answer_stores c.answer; flash = c.flash }

-- of a read of the handle h: number, place and number of data words
pub record Locates (a : Area) (h : ℕ) (f : List ℕ) (n p d : ℕ) : Type 0 where
  pub number : n ≡ reading_number (read_of a h f)
  pub place : p ≡ reading_place (read_of a h f)
  pub words : d ≡ reading_words (read_of a h f)

pub locates : {a : Area} {h n p d : ℕ} {f : List ℕ} {x : Reading} → Reads a h f x → n ≡ reading_number x → p ≡ reading_place x → d ≡ reading_words x → Locates a h f n p d
locates c e q w = record { number = e ∙ ap reading_number c; place = q ∙ ap reading_place c; words = w ∙ ap reading_words c }

-- of a step of a search from a place: number and place
pub record Yields (a : Area) (mask pattern start : ℕ) (f : List ℕ) (n p : ℕ) : Type 0 where
  pub number : n ≡ yielded_number (search_of a mask pattern start f)
  pub place : p ≡ yielded_place (search_of a mask pattern start f)

pub yields : {a : Area} {mask pattern start n p : ℕ} {f : List ℕ} {x : Yielded} → Searches a mask pattern start f x → n ≡ yielded_number x → p ≡ yielded_place x → Yields a mask pattern start f n p
yields c e q = record { number = e ∙ ap yielded_number c; place = q ∙ ap yielded_place c }

pub ruleset given = (gives, locates, yields)

-- ---- one outcome, and no other
pub gives_settles : {a : Area} {r : Request} {k m n s t : ℕ} {f g h : List ℕ} → Gives a r k f m s g → Gives a r k f n t h → (m ≡ n) × (s ≡ t) × (g ≡ h)
gives_settles x y = (settled x.number y.number, settled x.stores y.stores, settled x.flash y.flash)

pub locates_settles : {a : Area} {h m n p q d e : ℕ} {f : List ℕ} → Locates a h f m p d → Locates a h f n q e → (m ≡ n) × (p ≡ q) × (d ≡ e)
locates_settles x y = (settled x.number y.number, settled x.place y.place, settled x.words y.words)

pub yields_settles : {a : Area} {mask pattern start m n p q : ℕ} {f : List ℕ} → Yields a mask pattern start f m p → Yields a mask pattern start f n q → (m ≡ n) × (p ≡ q)
yields_settles x y = (settled x.number y.number, settled x.place y.place)
