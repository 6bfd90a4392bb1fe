-- Which part of a lowering gives a refusal: document 01, "Refused chunks", and of document 02 #105, #113 and #114, whose refusals are the form's. Assumes nothing.
use Rattle.refusals.specs.declared.Refusal.{Refusal}
use Rattle.refusals.specs.declared.Refusal.TheVariants.{TooLong, Missing, Map, Kind, Nesting, Locals, Varargs, Trailing, Scratch, Registers, Constants, Pool, Words, Syntax, Digits, Room, Recording, Ended, Step, Carried, Head, Layout, Page, Accepted, Ratio, Rule}

-- reading the form; then the test of the scratch; then the steps of the lowering, in emission order; no part of a lowering
pub data Stage : Type 0 where
  form : Stage
  scratch : Stage
  steps : Stage
  elsewhere : Stage

abbrev pub stage_of : Refusal → Stage
stage_of TooLong = form
stage_of Missing = form
stage_of Map = form
stage_of Kind = form
stage_of Nesting = form
stage_of Locals = form
stage_of Varargs = form
stage_of Trailing = form
stage_of Scratch = scratch
stage_of Registers = steps
stage_of Constants = steps
stage_of Pool = steps
stage_of Words = steps
stage_of Syntax = elsewhere
stage_of Digits = elsewhere
stage_of Room = elsewhere
stage_of Recording = elsewhere
stage_of Ended = elsewhere
stage_of Step = elsewhere
stage_of Carried = form
stage_of Head = elsewhere
stage_of Layout = elsewhere
stage_of Page = elsewhere
stage_of Accepted = elsewhere
stage_of Ratio = form
stage_of Rule = form
