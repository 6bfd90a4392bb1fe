-- What a descriptor is wanted as, so that a law speaks of all ways to bring it at once: no variable any more, in a register with its jumps still open or landed, in the next or in any register, a value without jumps, an operand. Assumes nothing.
pub data Want : Type 0 where
  Vars : Want
  Load : Want
  Reg : Want
  Next : Want
  Any : Want
  Val : Want
  Rk : Want
