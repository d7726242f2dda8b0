-- What contracts see of the fields of a history.
use Rattle.std.specs.Prelude.{ℕ, ◌-◌, min, List, vec_len, refl}
use Rattle.std.specs.Vec.{vec_capacity}
use Rattle.std.specs.Coded.{Coded, code_by, coded×, coded_list, coded_ℕ}
use Rattle.std.specs.VecDeque.{deque_len, deque_capacity}
use Rattle.gl_history.specs.declared.history.History.TheInside.{Inside}
use Rattle.gl_settings.specs.Settings.{Settings}
use Rattle.gl_settings.specs.Codes.{settings_code}
use Rattle.gl_history.specs.History.{Kept}

abbrev pub kept_of : Inside → Kept
kept_of history = record {
  from = history.from;
  configs = history.configs.items;
  commands = history.commands.items;
  counts = history.counts.items;
  room = min (deque_capacity history.configs - deque_len history.configs)
      (min (vec_capacity history.commands - vec_len history.commands) (vec_capacity history.counts - vec_len history.counts));
}

-- a history is stored as the tuple of its parts
abbrev pub kept_code : Coded Kept
kept_code =
    code_by (ℕ × (List Settings × (List ℕ × (List ℕ × ℕ))))
    (coded× coded_ℕ (coded× (coded_list settings_code) (coded× (coded_list coded_ℕ) (coded× (coded_list coded_ℕ) coded_ℕ))))
    (λ h. (h.from, (h.configs, (h.commands, (h.counts, h.room)))))
    (λ p. record { from = p.0; configs = p.1.0; commands = p.1.1.0; counts = p.1.1.1.0; room = p.1.1.1.1 })
    (λ _. refl)
