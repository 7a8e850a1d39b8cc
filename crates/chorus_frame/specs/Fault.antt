-- What may be wrong with bytes.

pub data Fault : Type 0 where
  -- the bytes end inside a field, or before it
  Short : Fault
  -- a field that says what follows says nothing that may stand there
  Kind : Fault
  -- a field is outside its range
  Range : Fault
  -- bytes stand behind the last field
  Trailing : Fault
