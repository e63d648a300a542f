-- A moment of a run.

-- a machine, and the output and the counters that it is handed
pub record Moment (M O D T : Type 0) : Type 0 where
  pub machine : M
  pub output : O
  pub draws : D
  pub tiles : T

abbrev pub moment : {M O D T : Type 0} → M → O → D → T → Moment M O D T
moment machine output draws tiles =
    record { machine = machine; output = output; draws = draws; tiles = tiles }
