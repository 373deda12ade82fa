-- What holds behind every line, from the first on: flash of 32-bit words, at most 15 pages, and an area that is not damaged. So no answer is
-- DAMAGED or BADPLACE, number and stores of every answer fit their digits, and nothing is CUT for which no power was named. Assumes nothing.
use Rattle.std.proofs.Math.Path.{◌≡◌, refl}
use Rattle.std.proofs.Common.{ap, sym, ◌∙◌, subst, true≢false, inl, inr, mul-le-mul_right, take_at, leb-true, leb-false, le-leb}
use Rattle.std.specs.Prelude.{List, [], ◌∷◌, Bool, true, false, cond, ◌&&◌, ◌≢◌, ◌⊎◌, ℕ, suc, zero, ◌+◌, ◌*◌, ◌≤◌, length, get_or, drop, leb, eqb, Ok, Err, Option, Some, None}
use Rattle.std.proofs.lemmas.Bool.{false≢true, eqb-false}
use native.Mathlib.Omega.{arith}
use Rattle.flash.specs.Stores.{blank, Words, none, more, Store, made}
use Rattle.flash.specs.Laws.{first_all}
use Rattle.rules.specs.declared.Area.{Area}
use Rattle.rules.specs.declared.Refusal.{Refusal}
use Rattle.rules.specs.declared.Refusal.TheVariants.{Geometry, Damaged, Unready, BadHandle, BadLength, NotFound, NoRoom, BadPlace}
use Rattle.rules.specs.Areas.{damaged}
use Rattle.rules.specs.Refusals.{refusal_number, answer_number, answer_stores, wrong_geometry, checked, format_checks, recover_checks, write_checks, find_checks, Plan, refuse, list, outcome_of, Reading, Yielded}
use Rattle.rules.specs.Lists.{format_list, delete_list, write_list, recover_list, Request, format, recover, write, delete, plan_of}
use Rattle.rules.specs.Search.{read_of, search_checks, search_of, bad_place}
use Rattle.rules.specs.Laws.{and_left, and_right}
use Rattle.rules.specs.Places.{right_of}
use Rattle.demands.specs.Terms.{Given, Change, run}
use Rattle.demands.specs.Runs.{given_of, usable, words_drop, words_append}
use Rattle.demands.specs.Settled.{ready_sound}
use Rattle.demands.specs.Format.{format_length}
use Rattle.demands.specs.Requests.{listed, change_ready}
use Rattle.demands.specs.Demands.{stays_given, recover_stores, write_stores, delete_stores, formatted as format_empty, recover_plan, taken_up_again, never_damaged}
use Rattle.frames.specs.declared.Shape.{Shape}
use Rattle.frames.specs.declared.State.{State}
use Rattle.frames.specs.declared.Tail.{Tail}
use Rattle.frames.specs.declared.Reply.{Reply}
use Rattle.frames.specs.declared.Frame.{Frame}
use Rattle.frames.specs.Frames.{is_digit, all_digits, value, two, four, eight, words_from, frame_of, line_words, area_of, run_words, run_of, with_run, plain, enough, start, read_reply, list_reply, requested, size_named, format_area, carried_by, carried, lines}
use Rattle.frames.specs.Numbers.{value_small}
use Rattle.sessions.specs.Stepping.{usable_run}
use Rattle.sessions.specs.Sessions.{format_cases, run_own, format_whole}

-- ---- the words of a line are 32-bit words
digit_small : (l : List ℕ) (i : ℕ) → all_digits l ≡ true → value (get_or l i 0) ≤ 15
digit_small [] i d = omega arith
digit_small (b ∷ l) zero d = value_small b (and_left (is_digit b) _ d)
digit_small (b ∷ l) (suc i) d = digit_small l i (and_right (is_digit b) _ d)

two_small : (l : List ℕ) (i : ℕ) → all_digits l ≡ true → two l i ≤ 0xFF
unfolding two
two_small l i d = let a = digit_small l i d in let b = digit_small l (i + 1) d in omega arith

four_small : (l : List ℕ) (i : ℕ) → all_digits l ≡ true → four l i ≤ 0xFFFF
unfolding four
four_small l i d = let a = two_small l i d in let b = two_small l (i + 2) d in omega arith

eight_small : (l : List ℕ) (i : ℕ) → all_digits l ≡ true → eight l i ≤ blank
unfolding eight
eight_small l i d = let a = four_small l i d in let b = four_small l (i + 4) d in omega arith

words_from_fit : (l : List ℕ) (n i : ℕ) → all_digits l ≡ true → Words (words_from l n i)
words_from_fit l zero i d = none
words_from_fit l (suc n) i d = more (eight_small l i d) (words_from_fit l n (i + 8) d)

pub data_words : (l : List ℕ) (n : ℕ) → all_digits l ≡ true → Words (line_words l n)
unfolding line_words
data_words l n d = words_from_fit l n 6 d

-- what is no capital hexadecimal is no frame
pub frame_digits : (l : List ℕ) → frame_of l ≢ None → all_digits l ≡ true
unfolding frame_of
frame_digits l e = go (leb 2 (length l) && all_digits l) refl
  where
    go : (b : Bool) → leb 2 (length l) && all_digits l ≡ b → all_digits l ≡ true
    go true q = and_right (leb 2 (length l)) (all_digits l) q
    go false q = absurd (e (rw q))

-- ---- what holds between lines
pub record Steady (s : State) (f : List ℕ) : Type 0 where
  pub few : s.shape.pages ≤ 15
  pub words : Words f
  pub undamaged : wrong_geometry (area_of s.shape) (run_of s.shape f) ≡ false → damaged (area_of s.shape) (run_of s.shape f) ≡ false

pub start_sound : {f : List ℕ} → Words f → Steady start f
unfolding wrong_geometry
start_sound w = record { few = omega arith; words = w; undamaged = λ e. absurd (true≢false e) }

-- the power does not matter
powered : {a : Shape} {k j : ℕ} {f : List ℕ} → Steady (record { shape = a; power = k }) f → Steady (record { shape = a; power = j }) f
powered s = record { few = s.few; words = s.words; undamaged = s.undamaged }

-- the run of an area is what was put there
run_new : (a : Shape) (f g : List ℕ) → length g ≡ run_words a → run_of a (with_run a f g) ≡ g
unfolding run_of with_run
run_new a f g l = take_at g (drop (run_words a) f) (run_words a) l

new_sound : (a : Shape) (k : ℕ) (f g : List ℕ) → a.pages ≤ 15 → Words f → Given (area_of a) g → damaged (area_of a) g ≡ false
    → Steady (record { shape = a; power = k }) (with_run a f g)
unfolding with_run run_words
new_sound a k f g h w v d =
    record { few = h; words = words_append v.words (words_drop (run_words a) w); undamaged = λ e. rw (run_new a f g v.long) d }

-- ---- requests
-- what a frame asks for besides a format: a recovery, or a change
abbrev Asked : Request → Type 0
Asked format = ⊥
Asked recover = Unit {0}
Asked (write h d) = Words d
Asked (delete h) = Unit {0}

module _ {a : Area} {f : List ℕ} (v : Given a f) (d : damaged a f ≡ false) where
  change_undamaged : (r : Request) → Change r → (k : ℕ) → damaged a (run a r k f).flash ≡ false
  change_undamaged r c k = go (plan_of a r f) refl
    where
      go : (p : Plan) → plan_of a r f ≡ p → damaged a (run a r k f).flash ≡ false
      go (refuse n) e = rw e d
      go (list ss) e = never_damaged v (change_ready a f r c ss e) r c k

  asked_undamaged : (r : Request) → Asked r → (k : ℕ) → damaged a (run a r k f).flash ≡ false
  asked_undamaged format c k = absurd c
  asked_undamaged recover c k = rw (recover_plan v d) (taken_up_again v d k).0
  asked_undamaged (write h x) c k = change_undamaged (write h x) c k
  asked_undamaged (delete h) c k = change_undamaged (delete h) tt k

-- GEOMETRY is the first of every request's checks
wrong_refused : (a : Area) (f : List ℕ) (r : Request) → wrong_geometry a f ≡ true → plan_of a r f ≡ refuse Geometry
wrong_refused a f format q = rw q
wrong_refused a f recover q = rw q
wrong_refused a f (write h d) q = rw q
wrong_refused a f (delete h) q = rw q

module _ {s : State} {f : List ℕ} (c : Steady s f) where
  given_run : (a : Shape) → wrong_geometry (area_of a) (run_of a f) ≡ false → Given (area_of a) (run_of a f)
  given_run a q = given_of (usable_run a c.words q)

  stored_sound : (r : Request) → Asked r → Steady (requested s f r).state (requested s f r).flash
  stored_sound r x = go (wrong_geometry (area_of s.shape) (run_of s.shape f)) refl
    where
      go : (b : Bool) → wrong_geometry (area_of s.shape) (run_of s.shape f) ≡ b → Steady (requested s f r).state (requested s f r).flash
      go true q = rw (wrong_refused (area_of s.shape) (run_of s.shape f) r q, run_own s.shape f) (powered c)
      go false q =
          let v = given_run s.shape q in
          let g = (run (area_of s.shape) r s.power (run_of s.shape f)).flash in
          new_sound s.shape enough f g c.few c.words (stays_given v r s.power) (asked_undamaged v (c.undamaged q) r x s.power)

  format_sound : (a : Shape) → a.pages ≤ 15 → Steady (format_area s f a).state (format_area s f a).flash
  format_sound a h = go (wrong_geometry (area_of a) (run_of a f)) refl
    where
      go : (b : Bool) → wrong_geometry (area_of a) (run_of a f) ≡ b → Steady (format_area s f a).state (format_area s f a).flash
      go true q = rw (q, run_own a f) c
      go false q =
          let v = given_run a q in
          let ss = format_list (area_of a) (run_of a f) in
          let t = format_empty v ss (rw q) in
          let e = first_all enough ss (run_of a f) (leb-true (length ss) enough (format_whole a f h)) in
          rw (q, format_whole a f h, e) (new_sound a s.power f (made ss (run_of a f)) h c.words t.given (ready_sound (area_of a) (made ss (run_of a f)) (usable t.given) t.ready))

  -- a line keeps it
  pub carried_sound : (l : List ℕ) → Steady (carried s f l).state (carried s f l).flash
  unfolding carried
  carried_sound l = go (frame_of l) refl
    where
      go : (x : Option Frame) → frame_of l ≡ x → Steady (carried_by s f l x).state (carried_by s f l x).flash
      go (Some (Frame.Write h n)) e = stored_sound (write h (line_words l n)) (data_words l n (frame_digits l (λ z. let y : ◌≡◌ {A = ℕ} 0 1 = cc in omega arith)))
      go (Some (Frame.Read h)) e = c
      go (Some (Frame.Delete h)) e = stored_sound (delete h) tt
      go (Some (Frame.List mask pattern)) e = c
      go (Some Frame.Recover) e = stored_sound recover tt
      go (Some (Frame.Power k)) e = powered c
      go (Some (Frame.Format n size)) e = format_cases (λ x. Steady x.state x.flash) s f l n size (λ h. format_sound (record { pages = n; size = size_named size }) h) c
      go None e = c

-- ---- what answers can be
-- neither DAMAGED nor BADPLACE, and number and stores fit two and four digits
pub record Printable (r : Reply) : Type 0 where
  pub number : r.number ≤ 0xFF
  pub not_damaged : r.number ≢ 0x02
  pub not_place : r.number ≢ 0x09
  pub stores : r.stores ≤ 0xFFFF

abbrev allowed : Refusal → Bool
allowed Geometry = true
allowed Damaged = false
allowed Unready = true
allowed BadHandle = true
allowed BadLength = true
allowed NotFound = true
allowed NoRoom = true
allowed BadPlace = false

fits_by : (r : Reply) → leb r.number 0xFF ≡ true → eqb r.number 0x02 ≡ false → eqb r.number 0x09 ≡ false → r.stores ≤ 0xFFFF → Printable r
fits_by r p q w l = record { number = leb-true r.number 0xFF p; not_damaged = eqb-false r.number 0x02 q; not_place = eqb-false r.number 0x09 w; stores = l }

fits_done : (t : Tail) → Printable (record { number = 0x00; stores = 0; tail = t })
fits_done t = fits_by (record { number = 0x00; stores = 0; tail = t }) refl refl refl (omega arith)

fits_refused : (n : Refusal) → allowed n ≡ true → Printable (plain (refusal_number n) 0)
fits_refused Geometry e = fits_by (plain 0x01 0) refl refl refl (omega arith)
fits_refused Damaged e = absurd (false≢true e)
fits_refused Unready e = fits_by (plain 0x03 0) refl refl refl (omega arith)
fits_refused BadHandle e = fits_by (plain 0x04 0) refl refl refl (omega arith)
fits_refused BadLength e = fits_by (plain 0x05 0) refl refl refl (omega arith)
fits_refused NotFound e = fits_by (plain 0x06 0) refl refl refl (omega arith)
fits_refused NoRoom e = fits_by (plain 0x07 0) refl refl refl (omega arith)
fits_refused BadPlace e = absurd (false≢true e)

-- checks that either pass or give such a refusal
abbrev Allowed : List (Bool × Refusal) → Type 0
Allowed [] = Unit {0}
Allowed (c ∷ cs) = ((c.0 ≡ false) ⊎ (allowed c.1 ≡ true)) × Allowed cs

checks_allow : {A : Type 0} (P : A → Type 0) (refused : Refusal → A) (cs : List (Bool × Refusal)) (x : A) → ((n : Refusal) → allowed n ≡ true → P (refused n)) → P x → Allowed cs
    → P (checked refused cs x)
checks_allow P refused [] x h p w = p
checks_allow {A} P refused (c ∷ cs) x h p w = go c.0 refl w.0 (checks_allow P refused cs x h p w.1)
  where
    go : (b : Bool) → c.0 ≡ b → (c.0 ≡ false) ⊎ (allowed c.1 ≡ true) → P (checked refused cs x) → P (cond b (refused c.1) (checked refused cs x))
    go true q (inl e) ih = absurd (true≢false (sym q ∙ e))
    go true q (inr e) ih = h c.1 e
    go false q e ih = ih

-- what is told of a plan
abbrev told_of : Plan → ℕ → List ℕ → Reply
told_of p k f = let x = (outcome_of p k f).answer in plain (answer_number x) (answer_stores x)

list_fits : (ss : List Store) (k : ℕ) (f : List ℕ) → length ss ≤ 0xFFFF → Printable (told_of (list ss) k f)
list_fits ss k f l = go (leb (length ss) k) refl
  where
    go : (b : Bool) → leb (length ss) k ≡ b → Printable (told_of (list ss) k f)
    go true q = rw q (fits_by (plain 0x00 (length ss)) refl refl refl l)
    go false q = let j = leb-false (length ss) k q in rw q (fits_by (plain 0x08 k) refl refl refl (omega arith))

module _ {a : Area} {f : List ℕ} (v : Given a f) (h : a.pages ≤ 15) (d : damaged a f ≡ false) where
  short : (r : Request) → Asked r → (ss : List Store) → plan_of a r f ≡ list ss → length ss ≤ 0xFFFF
  short format c ss e = absurd c
  short recover c ss e =
      let m = (right_of a f (usable v).right).narrow in
      let p : a.pages * a.words ≤ 15 * a.words = mul-le-mul_right a.words h in
      omega (arith, recover_stores v ss e)
  short (write u x) c ss e = let m = (right_of a f (usable v).right).narrow in omega (arith, (write_stores v u x c ss e).1)
  short (delete u) c ss e = omega (arith, delete_stores v u ss e)

  plan_fits : (r : Request) → Asked r → (k : ℕ) (cs : List (Bool × Refusal)) (ss : List Store) → plan_of a r f ≡ checked refuse cs (list ss) → Allowed cs
      → Printable (told_of (checked refuse cs (list ss)) k f)
  plan_fits r c k cs ss e w =
      checks_allow (λ (p : Plan). plan_of a r f ≡ p → Printable (told_of p k f)) refuse cs (list ss) (λ n q z. fits_refused n q) (λ z. list_fits ss k f (short r c ss z)) w e

  asked_fits : (r : Request) → Asked r → (k : ℕ) → Printable (told_of (plan_of a r f) k f)
  asked_fits format c k = absurd c
  asked_fits recover c k = plan_fits recover c k (recover_checks a f) (recover_list a f) refl (inr refl, (inl d, tt))
  asked_fits (write u x) c k =
      plan_fits (write u x) c k (write_checks a f u x) (write_list a u x f) refl (inr refl, (inl d, (inr refl, (inr refl, (inr refl, (inr refl, tt))))))
  asked_fits (delete u) c k = plan_fits (delete u) c k (find_checks a f u) (delete_list a u f) refl (inr refl, (inl d, (inr refl, (inr refl, (inr refl, tt)))))

  read_fits : (u : ℕ) → Printable (read_reply (read_of a u f))
  read_fits u =
      checks_allow (λ (x : Reading). Printable (read_reply x)) Err (find_checks a f u) _ fits_refused (fits_done _)
      (inr refl, (inl d, (inr refl, (inr refl, (inr refl, tt)))))

  list_reply_fits : (s : Shape) (mask pattern : ℕ) → Printable (list_reply s mask pattern (search_of a mask pattern 0 f))
  unfolding bad_place
  list_reply_fits s mask pattern =
      checks_allow (λ (y : Yielded). Printable (list_reply s mask pattern y)) Err (search_checks a f mask pattern 0) _ fits_refused (fits_done _)
      (inr refl, (inl d, (inr refl, (inl refl, (inr refl, tt)))))

-- of a line's
module _ {s : State} {f : List ℕ} (c : Steady s f) where
  abbrev area : Area
  area = area_of s.shape

  abbrev words : List ℕ
  words = run_of s.shape f

  -- what refuses a wrong geometry, or else fits, fits
  either_fits : (r : Reply) → (wrong_geometry area words ≡ true → r ≡ plain 0x01 0) → (Given area words → damaged area words ≡ false → Printable r) → Printable r
  either_fits r p q = go (wrong_geometry area words) refl
    where
      go : (b : Bool) → wrong_geometry area words ≡ b → Printable r
      go true e = rw (p e) (fits_refused Geometry refl)
      go false e = q (given_of (usable_run s.shape c.words e)) (c.undamaged e)

  stored_fits : (r : Request) → Asked r → Printable (requested s f r).reply
  stored_fits r x =
      either_fits (requested s f r).reply (λ e. ap (λ (p : Plan). told_of p s.power words) (wrong_refused area words r e)) (λ v d. asked_fits v c.few d r x s.power)

  format_fits : (a : Shape) → a.pages ≤ 15 → Printable (format_area s f a).reply
  format_fits a h = go (wrong_geometry (area_of a) (run_of a f)) refl
    where
      go : (b : Bool) → wrong_geometry (area_of a) (run_of a f) ≡ b → Printable (format_area s f a).reply
      go true q = rw q (fits_refused Geometry refl)
      go false q =
          let ss = format_list (area_of a) (run_of a f) in
          let l = format_length (area_of a) (run_of a f) in
          rw q (list_fits ss enough (run_of a f) (omega arith))

  pub answer_fits : (l : List ℕ) → Printable (carried s f l).reply
  unfolding carried
  answer_fits l = go (frame_of l) refl
    where
      go : (x : Option Frame) → frame_of l ≡ x → Printable (carried_by s f l x).reply
      go (Some (Frame.Write h n)) e = stored_fits (write h (line_words l n)) (data_words l n (frame_digits l (λ z. let y : ◌≡◌ {A = ℕ} 0 1 = cc in omega arith)))
      go (Some (Frame.Read h)) e = either_fits _ (λ q. rw q) (λ v d. read_fits v c.few d h)
      go (Some (Frame.Delete h)) e = stored_fits (delete h) tt
      go (Some (Frame.List mask pattern)) e = either_fits _ (λ q. rw q) (λ v d. list_reply_fits v c.few d s.shape mask pattern)
      go (Some Frame.Recover) e = stored_fits recover tt
      go (Some (Frame.Power k)) e = fits_done _
      go (Some (Frame.Format n size)) e =
          format_cases (λ x. Printable x.reply) s f l n size (λ h. format_fits (record { pages = n; size = size_named size }) h) (fits_refused Geometry refl)
      go None e = fits_by (plain 0x0A 0) refl refl refl (omega arith)

-- ---- power that none was named for is enough
-- no refusal is CUT
refusal_uncut : (n : Refusal) → refusal_number n ≢ 0x08
refusal_uncut Geometry e = omega arith
refusal_uncut Damaged e = omega arith
refusal_uncut Unready e = omega arith
refusal_uncut BadHandle e = omega arith
refusal_uncut BadLength e = omega arith
refusal_uncut NotFound e = omega arith
refusal_uncut NoRoom e = omega arith
refusal_uncut BadPlace e = omega arith

plan_uncut : (p : Plan) (k : ℕ) (f : List ℕ) → ((ss : List Store) → p ≡ list ss → length ss ≤ k) → (told_of p k f).number ≢ 0x08
plan_uncut (refuse n) k f h = refusal_uncut n
plan_uncut (list ss) k f h = rw (le-leb (length ss) k (h ss refl)) (λ e. omega arith)

read_uncut : (x : Reading) → (read_reply x).number ≢ 0x08
read_uncut (Ok d) e = omega arith
read_uncut (Err n) e = refusal_uncut n e

list_uncut : (a : Shape) (mask pattern : ℕ) (y : Yielded) → (list_reply a mask pattern y).number ≢ 0x08
list_uncut a mask pattern (Ok p) e = omega arith
list_uncut a mask pattern (Err n) e = refusal_uncut n e

format_uncut : (s : State) (f : List ℕ) (a : Shape) → a.pages ≤ 15 → (format_area s f a).reply.number ≢ 0x08
format_uncut s f a h =
    plan_uncut (plan_of (area_of a) format (run_of a f)) enough (run_of a f)
    (λ ss e. leb-true (length ss) enough (subst (λ (u : List Store). leb (length u) enough ≡ true) (listed (format_checks (area_of a) (run_of a f)) (format_list (area_of a) (run_of a f)) ss e).1 (format_whole a f h)))

module _ {s : State} {f : List ℕ} (c : Steady s f) (p : s.power ≡ enough) where
  stored_uncut : (r : Request) → Asked r → (requested s f r).reply.number ≢ 0x08
  stored_uncut r x = plan_uncut (plan_of (area_of s.shape) r (run_of s.shape f)) s.power (run_of s.shape f) (λ ss e. go (wrong_geometry (area_of s.shape) (run_of s.shape f)) refl ss e)
    where
      go : (b : Bool) → wrong_geometry (area_of s.shape) (run_of s.shape f) ≡ b → (ss : List Store) → plan_of (area_of s.shape) r (run_of s.shape f) ≡ list ss
          → length ss ≤ s.power
      go true q ss e =
          let w : refuse Geometry ≡ list ss = sym (wrong_refused (area_of s.shape) (run_of s.shape f) r q) ∙ e in
          absurd (let y : ◌≡◌ {A = ℕ} 0 1 = cc in let z : ⊥ = omega arith in z)
      go false q ss e = let l = short (given_run c s.shape q) c.few (c.undamaged q) r x ss e in omega arith

  pub power_enough : (l : List ℕ) → (carried s f l).reply.number ≢ 0x08
  unfolding carried
  power_enough l = go (frame_of l) refl
    where
      go : (x : Option Frame) → frame_of l ≡ x → (carried_by s f l x).reply.number ≢ 0x08
      go (Some (Frame.Write h n)) e = stored_uncut (write h (line_words l n)) (data_words l n (frame_digits l (λ z. let y : ◌≡◌ {A = ℕ} 0 1 = cc in omega arith)))
      go (Some (Frame.Read h)) e = read_uncut (read_of (area_of s.shape) h (run_of s.shape f))
      go (Some (Frame.Delete h)) e = stored_uncut (delete h) tt
      go (Some (Frame.List mask pattern)) e = list_uncut s.shape mask pattern (search_of (area_of s.shape) mask pattern 0 (run_of s.shape f))
      go (Some Frame.Recover) e = stored_uncut recover tt
      go (Some (Frame.Power k)) e = λ z. omega arith
      go (Some (Frame.Format n size)) e = format_cases (λ x. x.reply.number ≢ 0x08) s f l n size (λ h. format_uncut s f (record { pages = n; size = size_named size }) h) (λ z. omega arith)
      go None e = λ z. omega arith

-- ---- a whole session
-- each of its answers
abbrev pub Each : (Reply → Type 0) → State → List ℕ → List (List ℕ) → Type 0
Each P s f [] = Unit {0}
Each P s f (l ∷ ls) = P (carried s f l).reply × Each P (carried s f l).state (carried s f l).flash ls

pub each_fits : {s : State} {f : List ℕ} → Steady s f → (ls : List (List ℕ)) → Each Printable s f ls
each_fits c [] = tt
each_fits {s = s} {f = f} c (l ∷ ls) = (answer_fits c l, each_fits {s = (carried s f l).state} (carried_sound c l) ls)

-- from the start, on any flash of 32-bit words
pub session_fits : {f : List ℕ} → Words f → (input : List ℕ) → Each Printable start f (lines input)
session_fits w input = each_fits (start_sound w) (lines input)
