-- Document 01, "Refused chunks", and document 02: the number of each refusal. Assumes nothing.
use Rattle.std.specs.Prelude.{ℕ}
use Rattle.refusals.specs.declared.Refusal.{Refusal}
use Rattle.refusals.specs.declared.Refusal.TheVariants.{TooLong, Missing, Map, Kind, Nesting, Locals, Varargs, Trailing, Scratch, Registers, Constants, Pool, Words, Syntax, Digits, Room, Recording, Ended, Step, Carried, Head, Layout, Page, Accepted, Ratio, Rule}

abbrev pub number_of : Refusal → ℕ
-- longer than 1,048,576 bytes
number_of TooLong = 1
-- a byte that the form asks for isn't there
number_of Missing = 2
-- a bit map with a bit that isn't taken, or without one that is needed
number_of Map = 3
-- an unknown kind or operator
number_of Kind = 4
-- a node at nesting 201
number_of Nesting = 5
-- more than 200 locals
number_of Locals = 6
-- a vararg in a chunk without varargs
number_of Varargs = 7
-- bytes after the last formula
number_of Trailing = 8
-- a scratch shorter than the number of nodes
number_of Scratch = 9
-- more than 250 registers
number_of Registers = 10
-- a new constant beyond the shorter constant buffer, or 262,144 entries
number_of Constants = 11
-- its text doesn't fit the pool
number_of Pool = 12
-- a word beyond the code or line buffer, or 131,071
number_of Words = 13
-- a text that leaves the grammar (#101)
number_of Syntax = 14
-- a numeral of more than 15 digits (#101)
number_of Digits = 15
-- an output buffer too short for the nodes of a text (#101)
number_of Room = 16
-- a recording that is cut short or breaks its form (#103)
number_of Recording = 17
-- a recording that ends before the next outward step (#103)
number_of Ended = 18
-- a next record of another kind than the outward step (#103)
number_of Step = 19
-- more than 60 carried values (#105)
number_of Carried = 20
-- a count of heads that isn't 1 to 8, or a head byte above 7 (#108)
number_of Head = 21
-- a layout outside its ranges (#110)
number_of Layout = 22
-- a formula of more words than a page holds, or a page of none (#111)
number_of Page = 23
-- a chunk whose smallest refused part is sought, and that is accepted (#112)
number_of Accepted = 24
-- a ratio over zero (#113)
number_of Ratio = 25
-- a rule for a local that isn't there (#114)
number_of Rule = 26
