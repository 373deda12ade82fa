-- What a look at an area and a survey of it give: definitions alone. Assumes nothing.
use Rattle.std.specs.Prelude.{List, [], Bool, cond, ◌&&◌, ℕ, Option, Some, None, Result, Ok, Err}
use Rattle.rules.specs.declared.Area.{Area}
use Rattle.rules.specs.Walk.{stop}
use Rattle.rules.specs.Areas.{page, every, recovery, is_free, sealed_at, entries, find, live_words}
use Rattle.rules.specs.Refusals.{checked, recover_checks, ready_checks}
use Rattle.rules.specs.Lists.{room_page, compact_page}
use Rattle.entries.specs.Ahead.{found_of}
use Rattle.entries.specs.Noting.{all_noted, any_handle, blank_map, nothing}
use Rattle.survey.specs.declared.FoundPage.{FoundPage}
use Rattle.survey.specs.declared.View.{View}
use Rattle.survey.specs.declared.Sight.{Sight}
use Rattle.rules.specs.declared.Refusal.{Refusal}

-- a page that is found, with the place where its walk stops
abbrev pub found_page : Area → List ℕ → Option ℕ → Option FoundPage
found_page a f None = None
found_page a f (Some i) = Some (record { index = i; stop = (stop (page a f i)) })

-- of a ready area, for a handle and an entry of so many words
unfoldable pub view_of : Area → List ℕ → ℕ → ℕ → View
view_of a f h n =
    record {
      entry = found_of (find h (entries a f));
      live = live_words (entries a f);
      room = found_page a f (room_page a f n);
      compact = found_page a f (compact_page a f n);
    }

-- whether R is free and all pages are sealed
unfoldable pub all_sealed : Area → List ℕ → Bool
all_sealed a f = is_free (recovery a f) && every (sealed_at a f) a.pages 0

-- of such an area
unfoldable pub sight_of : Area → List ℕ → ℕ → ℕ → Sight
sight_of a f h n = record { view = view_of a f h n; windows = (all_noted any_handle blank_map nothing (entries a f)).windows }

-- the checks that every request but a format begins with, and then what is found
abbrev pub looked : Area → List ℕ → ℕ → ℕ → Result (Option Sight) Refusal
looked a f h n = checked Err (recover_checks a f) (cond (all_sealed a f) (Ok (Some (sight_of a f h n))) (Ok None))

-- the checks that write, read, delete and search begin with, and then what is found
abbrev pub surveyed : Area → List ℕ → ℕ → ℕ → Result View Refusal
surveyed a f h n = checked Err (ready_checks a f []) (Ok (view_of a f h n))
