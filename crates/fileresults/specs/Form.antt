-- A C host gets an answer's numbers, each in a field: number and place, then the values in the order of the fields. What does not apply is 0. Here for what a file with an image is.
use Rattle.std.specs.Prelude.{Result}
use Rattle.base.specs.Answer.{value}
use Rattle.imagefile.specs.Imagefile.{form_numbers}
use Rattle.fileresults.specs.Types.{Refusal, FileForm, TealsettleForm}

-- `tealsettle_file_form`: the form, and where in a BIT file its image is; or a refusal
unfoldable pub form_result : Result FileForm Refusal → TealsettleForm
form_result answer = record {
  number = (form_numbers answer).number;
  place = (form_numbers answer).place;
  form = value (form_numbers answer) 0;
  first = value (form_numbers answer) 1;
  length = value (form_numbers answer) 2;
}
