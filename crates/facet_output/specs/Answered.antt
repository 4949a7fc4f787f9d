-- The commands of a script with their replies, and which of them came after which.
use Rattle.std.specs.Prelude.{◌==◌, ◌&&◌, ◌||◌, ℕ, nat_lt, not, Bool, true, List, map, filter, flat_map, Option}
use Rattle.std.specs.List.{enumerate_from, range_with_len, list_all}
use Rattle.std.specs.Option.{option_map_or}
use Rattle.facet_words.specs.Commands.{Order}
use Rattle.facet_replies.specs.Replies.{Reply}

-- A command of a phase with its reply. `took` is the numbers of operations and labels of the last published pair, if it
-- took that. `place` is the place of the pair that it took or published, if any, among those that were published. `saw`
-- is how many operations there were when a change was refused for documents, if it was.
pub record Answered : Type 0 where
  pub phase : ℕ
  pub order : Order
  pub took : Option (ℕ × ℕ)
  pub place : Option ℕ
  pub saw : Option ℕ
  pub reply : Reply

-- it is of this session
abbrev pub is_of : ℕ → Answered → Bool
is_of session a = a.order.session == session

-- those of a session, in line order
abbrev pub of_session : ℕ → List Answered → List Answered
of_session session answered = filter (is_of session) answered

-- each of them that has such a part passes the test of it
abbrev pub each_with : {A : Type 0} → (Answered → Option A) → (Answered → A → Bool) → List Answered → Bool
each_with part test answered = list_all (λ a. option_map_or (test a) (part a) true) answered

-- ---- what came before

-- a began after b was answered: b is of an earlier phase, or of an earlier line of its session
abbrev pub comes_after : Answered → Answered → Bool
comes_after a b = nat_lt b.phase a.phase
    || (b.phase == a.phase && b.order.session == a.order.session && nat_lt b.order.line a.order.line)

-- b may have been answered before a: it is of an earlier phase, of another session of the phase, or of an earlier line
-- of its session
abbrev pub may_come_after : Answered → Answered → Bool
may_come_after a b = nat_lt b.phase a.phase
    || (b.phase == a.phase && (not (b.order.session == a.order.session) || nat_lt b.order.line a.order.line))

-- ---- the order of writing

-- the commands of a phase, by rising sessions
abbrev pub by_session : List Order → List Order
by_session orders = flat_map (λ session. filter (λ o. o.session == session) orders) (range_with_len 1 64)

-- all commands with the numbers of their phases, phase by phase
abbrev pub in_writing_order : List (List Order) → List (ℕ × Order)
in_writing_order phases = flat_map (λ e. map (λ o. (e.0, o)) (by_session e.1)) (enumerate_from 0 phases)
