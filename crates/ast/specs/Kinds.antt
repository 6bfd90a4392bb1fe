-- The kinds of node by number, and what each needs of its map (document 01, "The chunk"). Assumes nothing.
use Rattle.std.specs.Prelude.{ℕ, List, [], ◌∷◌, get_or, Result, Ok, Err}
use Rattle.ast.specs.declared.Kind.{Kind}
use Rattle.ast.specs.declared.Kind.TheVariants.{Nil, True, False, Number, Str, VarArg, Name, Binary, Unary, Index, Field, MethodCall, Call, Paren}
use Rattle.refusals.specs.declared.Refusal.{Refusal}
use Rattle.refusals.specs.declared.Refusal.TheVariants as refusal

abbrev pub kinds : List (Result Kind Refusal)
kinds = Ok Nil ∷ Ok True ∷ Ok False ∷ Ok Number ∷ Ok Str ∷ Ok VarArg ∷ Ok Name ∷ Ok Binary ∷ Ok Unary ∷ Ok Index ∷ Ok Field ∷ Ok MethodCall ∷ Ok Call ∷ Ok Paren ∷ []

unfoldable pub kind_of : ℕ → Result Kind Refusal
kind_of n = get_or kinds n (Err refusal.Kind)

-- bits 1 to 4 of the map, as a number: 1 the number's bit, 2 the text's, 4 the operator's, 8 the argument count's
abbrev pub map_of : Kind → ℕ
map_of Nil = 0
map_of True = 0
map_of False = 0
map_of Number = 1
map_of Str = 2
map_of VarArg = 0
map_of Name = 2
map_of Binary = 4
map_of Unary = 4
map_of Index = 0
map_of Field = 2
map_of MethodCall = 10
map_of Call = 8
map_of Paren = 0
