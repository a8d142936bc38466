use Rattle.std.proofs.Common.{rules}
use Rattle.jr_damage.proofs.map.damaged_interval.Goals as goal

pub returns-clause-damaged : goal.returns-clause-damaged
returns-clause-damaged c =
    let stated = c.in_ok-decodable.ensures in
    record {
      number = search rules;
      undecodable = stated.damaged;
      decodable = search (rules, stated.front);
      first = search rules;
      count = search rules;
      lines = search rules;
      bytes = search rules;
    }
