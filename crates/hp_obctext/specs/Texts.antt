-- What the code holds of a file.
use Rattle.hp_obctext.specs.Files as file
use Rattle.hp_obctext.specs.declared.text.File.{File}

abbrev pub file_seen : File → file.File
file_seen f = record { types = f.types.items; machines = f.machines.items }
