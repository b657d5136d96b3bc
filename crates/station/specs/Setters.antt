-- One setter for each field of a record: that field at another value, and all the others as they were. What a row changes is said by these alone.
use Rattle.std.specs.Prelude.{ℕ, Bool}
use Rattle.station.specs.declared.Head.{Head}
use Rattle.station.specs.declared.Cells.{Cells}

-- 01, "The table": "place"
abbrev pub with_place : ℕ → Head → Head
with_place place head = record { place = place; own = head.own; high = head.high; next = head.next; due = head.due }

-- "own number"
abbrev pub with_own : ℕ → Head → Head
with_own own head = record { place = head.place; own = own; high = head.high; next = head.next; due = head.due }

-- "highest number seen"
abbrev pub with_high : ℕ → Head → Head
with_high high head = record { place = head.place; own = head.own; high = high; next = head.next; due = head.due }

-- "next peer p"
abbrev pub with_next : ℕ → Head → Head
with_next next head = record { place = head.place; own = head.own; high = head.high; next = next; due = head.due }

-- "answers due"
abbrev pub with_due : ℕ → Head → Head
with_due due head = record { place = head.place; own = head.own; high = head.high; next = head.next; due = due }

-- "the request under way from that peer"
abbrev pub with_request : ℕ → Cells → Cells
with_request request cells = record { request = request; answer = cells.answer; mark = cells.mark }

-- "an answer under way from that peer (yes or no)"
abbrev pub with_answer : Bool → Cells → Cells
with_answer answer cells = record { request = cells.request; answer = answer; mark = cells.mark }

-- "a held-back mark for that peer"
abbrev pub with_mark : Bool → Cells → Cells
with_mark mark cells = record { request = cells.request; answer = cells.answer; mark = mark }
