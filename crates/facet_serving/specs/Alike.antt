-- Runs of one session over equal stores.
use Rattle.std.specs.Prelude.{◌≡◌, ◌⊎◌, ⊤, ℕ, Bool, true, false, List, [], ◌∷◌, map, Some, Ok, IsTrue}
use Rattle.std.specs.List.{list_all}
use mathlib.Core.List.{IsPrefix}
use Rattle.commit_turns.specs.Recovery.{docs_found}
use Rattle.facet_disk.specs.Images.{Told}
use Rattle.facet_disk.specs.declared.disk.Disk.{Ghosts}
use Rattle.facet_engine.specs.declared.ending.Trace.{Trace}
use Rattle.facet_output.specs.Answered.{Answered, in_writing_order, is_of}
use Rattle.facet_replies.specs.Replies.{Reply, closed, disk_failed, no_memory, numbers_spent, refused}
use Rattle.facet_words.specs.Commands.{Settings, Order}
use Rattle.store_opening.specs.Files.{Found, files}
use Rattle.facet_serving.specs.Sessions.{Ran, bytes_of}

-- ---- replies that are alike

-- it reports that a commit failed on the disk, now or before, or that numbers are spent
abbrev pub IsOfStore : Reply → Type 0
IsOfStore reply = (n : ℕ) × ((reply ≡ refused (disk_failed n)) ⊎ (reply ≡ refused (closed n))
    ⊎ (reply ≡ refused (numbers_spent n)))

-- it reports none of these, nor that memory ran out
abbrev pub is_plain : Reply → Bool
is_plain (refused (disk_failed n)) = false
is_plain (refused (closed n)) = false
is_plain (refused (numbers_spent n)) = false
is_plain (refused no_memory) = false
is_plain _ = true

-- Replies are equal one by one as far as both go, but where one of two reports on its store. After the first that
-- reports that memory ran out nothing is promised.
abbrev pub AreAlike : List Reply → List Reply → Type 0
AreAlike [] qs = ⊤
AreAlike (r ∷ rs) [] = ⊤
AreAlike (r ∷ rs) (q ∷ qs) =
    ((r ≡ refused no_memory) ⊎ (q ≡ refused no_memory)) ⊎ (((r ≡ q) ⊎ IsOfStore r ⊎ IsOfStore q) × AreAlike rs qs)

abbrev pub replies_of : List Answered → List Reply
replies_of answered = map (λ a. a.reply) answered

-- ---- the laws

-- Stores whose files represent the same labels and documents are opened the same.
abbrev pub EqualFilesOpenTheSame : {D : Type 0} → Ghosts D → Type 0
EqualFilesOpenTheSame {D} ghosts = (settings : Settings) (phases more : List (List Order)) (trace other : Trace)
    (one two one_after two_after : D) (t u : Told) (f g : Found)
    → (first : Ran ghosts settings phases trace one one_after) → (second : Ran ghosts settings more other two two_after)
    → ghosts.told one ≡ Some t
    → ghosts.told two ≡ Some u
    → files settings.config t.files ≡ Ok f → files settings.config u.files ≡ Ok g → f.labels ≡ g.labels
    → docs_found f ≡ docs_found g
    → first.opened ≡ second.opened

-- Where the orders of one run of a session are the first of those of another, or all, and both opened the same, they
-- are answered alike.
abbrev pub EqualStoresReplyAlike : {D : Type 0} → Ghosts D → Type 0
EqualStoresReplyAlike {D} ghosts = (settings : Settings) (phases more : List (List Order)) (trace other : Trace)
    (one two one_after two_after : D) (session : ℕ)
    → (first : Ran ghosts settings phases trace one one_after) → (second : Ran ghosts settings more other two two_after)
    → first.opened ≡ second.opened
    → IsPrefix (in_writing_order phases) (in_writing_order more) → IsTrue (list_all (is_of session) second.answered)
    → AreAlike (replies_of first.answered) (replies_of second.answered)

-- Where no reply of two runs of one script reports on its store or on memory, all that they write is the same,
-- byte for byte, and so is their trace.
abbrev pub EqualStoresWriteTheSame : {D : Type 0} → Ghosts D → Type 0
EqualStoresWriteTheSame {D} ghosts = (settings : Settings) (phases : List (List Order)) (trace other : Trace)
    (one two one_after two_after : D) (session : ℕ)
    → (first : Ran ghosts settings phases trace one one_after)
    → (second : Ran ghosts settings phases other two two_after) → first.opened ≡ second.opened
    → IsTrue (list_all (is_of session) second.answered) → IsTrue (list_all is_plain (replies_of first.answered))
    → IsTrue (list_all is_plain (replies_of second.answered))
    → (bytes_of first ≡ bytes_of second) × (trace.labels ≡ other.labels) × (trace.sessions.items ≡ other.sessions.items)
