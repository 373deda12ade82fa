-- What a line does, from what its request answers: promise and laws. Assumes nothing.
use Rattle.std.specs.Prelude.{◌≡◌, refl, List, ℕ, length, take, Ok, Err, Option, Some, None, cond, leb}
use Rattle.std.proofs.Common.{sym, ap, ◌∙◌, length-take-le, ne_eqb}
use Rattle.std.proofs.Math.Path.{subst}
use Rattle.rules.specs.declared.Found.{Found}
use Rattle.rules.specs.declared.Refusal.{Refusal}
use Rattle.rules.specs.declared.PageSize.{PageSize}
use Rattle.rules.specs.Refusals.{refusal_number, answer_number, answer_stores, Answer, Reading, Yielded}
use Rattle.rules.specs.Lists.{recover, write, delete}
use Rattle.frames.specs.declared.Shape.{Shape}
use Rattle.frames.specs.declared.State.{State}
use Rattle.frames.specs.declared.Tail.{Tail}
use Rattle.frames.specs.declared.Reply.{Reply}
use Rattle.frames.specs.declared.Frame.{Frame}
use Rattle.frames.specs.Frames.{plain, read_reply, read_frame, list_reply, list_frame, size_named, bad_frame, is_format, format_frame, frame_of, Framed, Effect, requested, carried_by, carried}
use Rattle.frames.specs.Lines.{framed_room, framed_words}

-- ---- the promise
-- the reply to a line, r, and the state and the flash that are left, p and g, are what c says
pub record Carries (c : Effect) (r : Reply) (p : State) (g : List ℕ) : Type 0 where
  pub state : p ≡ c.state
  pub reply : r ≡ c.reply
  pub flash : g ≡ c.flash

-- ---- replies
pub answer_reply : {n k : ℕ} {r : Reply} (x : Answer) → n ≡ answer_number x → k ≡ answer_stores x → r ≡ plain n k → r ≡ plain (answer_number x) (answer_stores x)
answer_reply x e q d = d ∙ rw (e, q)

pub refused_reply : {n : ℕ} {r : Reply} (y : Refusal) → n ≡ refusal_number y → r ≡ plain n 0 → r ≡ plain (refusal_number y) 0
refused_reply y e d = d ∙ rw e

module _ {x : Reading} where
  pub read_words : {d : Found} → x ≡ Ok d → record { number = 0; stores = 0; tail = Tail.Words d.place d.words } ≡ read_reply x
  read_words q = rw q

  pub read_refused : {y : Refusal} {n : ℕ} {r : Reply} → x ≡ Err y → n ≡ refusal_number y → r ≡ plain n 0 → r ≡ read_reply x
  read_refused {y} q e d = refused_reply y e d ∙ rw q

module _ {x : Yielded} (a : Shape) (mask pattern : ℕ) where
  pub list_handles_reply : {p : ℕ} → x ≡ Ok p → record { number = 0; stores = 0; tail = Tail.Handles a mask pattern } ≡ list_reply a mask pattern x
  list_handles_reply q = rw q

  pub list_refused : {y : Refusal} {n : ℕ} {r : Reply} → x ≡ Err y → n ≡ refusal_number y → r ≡ plain n 0 → r ≡ list_reply a mask pattern x
  list_refused {y} q e d = refused_reply y e d ∙ rw q

-- ---- the page size and the area that a format names, if there are such
abbrev pub size_if : ℕ → Option PageSize
size_if n = cond (leb n 2) (Some (size_named n)) None

abbrev pub shape_if : ℕ → ℕ → Option Shape
shape_if n size = cond (is_format n size) (Some (record { pages = n; size = size_named size })) None

-- ---- the line, by its frame
module _ {w : Option Frame} {r : Reply} {p : State} {g : List ℕ} (s : State) (f l : List ℕ) (e : w ≡ frame_of l) where
  frame_by : (v : Option Frame) → w ≡ v → Carries (carried_by s f l v) r p g → Carries (carried s f l) r p g
  unfolding carried
  frame_by v q c = subst (λ (u : Option Frame). Carries (carried_by s f l u) r p g) (sym q ∙ e) c

module _ {w : Frame} {r : Reply} {v z : List ℕ} (s : State) (f l : List ℕ) (e : Framed l v (Some w) z) where
  some_by : {p : State} {g : List ℕ} (u : Frame) → w ≡ u → Carries (carried_by s f l (Some u)) r p g → Carries (carried s f l) r p g
  some_by u q c = frame_by s f l e.frame (Some u) (ap (λ (y : Frame). Some y) q) c

  module _ {p : State} {g : List ℕ} where
    pub by_write : {h n : ℕ} → w ≡ Frame.Write h n → length z ≡ 40 → Carries (requested s f (write h (take n z))) r p g → Carries (carried s f l) r p g
    by_write {h} {n} q k c = some_by (Frame.Write h n) q (subst (λ (u : List ℕ). Carries (requested s f (write h u)) r p g) (framed_words e q k) c)

    pub by_read : {h : ℕ} → w ≡ Frame.Read h → Carries (read_frame s f h) r p g → Carries (carried s f l) r p g
    by_read {h} q c = some_by (Frame.Read h) q c

    pub by_delete : {h : ℕ} → w ≡ Frame.Delete h → Carries (requested s f (delete h)) r p g → Carries (carried s f l) r p g
    by_delete {h} q c = some_by (Frame.Delete h) q c

    pub by_list : {mask pattern : ℕ} → w ≡ Frame.List mask pattern → Carries (list_frame s f mask pattern) r p g → Carries (carried s f l) r p g
    by_list {mask} {pattern} q c = some_by (Frame.List mask pattern) q c

    pub by_recover : w ≡ Frame.Recover → Carries (requested s f recover) r p g → Carries (carried s f l) r p g
    by_recover q c = some_by Frame.Recover q c

    pub by_format : {n size : ℕ} → w ≡ Frame.Format n size → Carries (format_frame s f n size) r p g → Carries (carried s f l) r p g
    by_format {n} {size} q c = some_by (Frame.Format n size) q c

  pub by_power : {k m : ℕ} → w ≡ Frame.Power k → r ≡ plain 0 0 → m ≡ k → Carries (carried s f l) r (record { shape = s.shape; power = m }) f
  by_power {k} q d o = some_by (Frame.Power k) q (record { state = rw o; reply = d; flash = refl })

pub by_bad : {r : Reply} (s : State) (f l : List ℕ) → None ≡ frame_of l → r ≡ plain bad_frame 0 → Carries (carried s f l) r s f
by_bad s f l e d = frame_by s f l e None refl (record { state = refl; reply = d; flash = refl })

pub ruleset dispatches = (length-take-le, framed_room, by_bad)
